pub mod SoundFloors
