-- What a reader has before it. Assumes nothing.
use Rattle.std.specs.Prelude.{ℕ, ◌+◌, List, length}
use Rattle.sitefile.specs.declared.reader.Reader.{Reader}

-- the bytes that are not read yet
abbrev pub ahead : Reader → List ℕ
ahead r = r.left.now

-- the file's length
abbrev pub size : Reader → ℕ
size r = r.at + length r.left.now
