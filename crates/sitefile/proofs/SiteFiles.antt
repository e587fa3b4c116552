-- A whole file: the layout of a site, or the first fault, and never both. Assumes nothing.
use Rattle.std.proofs.Common.{◌≡◌, ℕ, List, ◌∷◌, length, Ok, Err, sym, refl, ap, ◌∙◌, subst, arith}
use Rattle.tables.specs.States.{Cell}
use Rattle.tables.specs.declared.FloorHead.{FloorHead}
use Rattle.tables.specs.declared.tape.TapeHead.{TapeHead}
use Rattle.tables.specs.declared.tape.Place.{Place}
use Rattle.tables.specs.declared.tape.Lane.{Lane}
use Rattle.sitefile.specs.declared.fault.Fault.{Fault}
use Rattle.sitefile.specs.declared.loader.SiteHead.TheVariants.{Floor, Tape}
use Rattle.sitefile.specs.Formats.{Format, FirstFault}
use Rattle.sitefile.specs.Floors.{floor_kind, floor_format, LoadsFloor}
use Rattle.sitefile.specs.Tapes.{tape_kind, tape_format, LoadsTape}
use Rattle.sitefile.specs.Sites.{SiteDescription, a_floor, a_tape, Tables, tables_of, head_of, filled, Accepts, FileFault, empty, unknown, in_floor, in_tape, Loads}
use Rattle.sitefile.proofs.Fields.{fault_at, fault_same, Holds, faultless}
use Rattle.sitefile.proofs.FloorFiles.{floor_holds, floor_same}
use Rattle.sitefile.proofs.TapeFiles.{tape_holds, tape_same}

heads : {a b : ℕ} {r s : List ℕ} → (a ∷ r) ≡ (b ∷ s) → a ≡ b
heads e = cc

tails : {a b : ℕ} {r s : List ℕ} → (a ∷ r) ≡ (b ∷ s) → r ≡ s
tails e = cc

-- no file describes a site and has a fault
never_both : {file : List ℕ} {t : Tables} {f : Fault} (d : SiteDescription) → FileFault file t f → Accepts file t d → ⊥
never_both (a_floor d) (empty e is) a = omega (arith, ap length (sym e ∙ a.laid_out))
never_both (a_tape d) (empty e is) a = omega (arith, ap length (sym e ∙ a.laid_out))
never_both (a_floor d) (unknown kind rest e not_floor not_tape is) a = not_floor (heads (sym e ∙ a.laid_out))
never_both (a_tape d) (unknown kind rest e not_floor not_tape is) a = not_tape (heads (sym e ∙ a.laid_out))
never_both {file} {t} (a_floor d) (in_floor rest e x) a = faultless x (subst (Holds (length file) (floor_format (length t.cells))) (sym (tails (sym e ∙ a.laid_out))) (floor_holds (length file) (length t.cells) d a.keeps a.roomy))
never_both (a_tape d) (in_floor rest e x) a = omega (arith, heads (sym e ∙ a.laid_out))
never_both (a_floor d) (in_tape rest e x) a = omega (arith, heads (sym e ∙ a.laid_out))
never_both {file} {t} (a_tape d) (in_tape rest e x) a = faultless x (subst (Holds (length file) (tape_format (length t.places) (length t.lanes))) (sym (tails (sym e ∙ a.laid_out))) (tape_holds (length file) (length t.places) (length t.lanes) d a.keeps a.roomy.0 a.roomy.1))

-- no file has two faults
same_rest : {size : ℕ} {format : Format} {r s : List ℕ} {f g : Fault} → r ≡ s → FirstFault size format r f → FirstFault size format s g → f ≡ g
same_rest {size} {format} {f = f} e x y = fault_same (subst (λ l. FirstFault size format l f) e x) y

file_fault_same : {file : List ℕ} {t : Tables} {f g : Fault} → FileFault file t f → FileFault file t g → f ≡ g
file_fault_same (empty e is) (empty e' is') = is ∙ sym is'
file_fault_same (empty e is) (unknown kind rest e' nf nt is') = absurd (omega (arith, ap length (sym e ∙ e')))
file_fault_same (empty e is) (in_floor rest e' x) = absurd (omega (arith, ap length (sym e ∙ e')))
file_fault_same (empty e is) (in_tape rest e' x) = absurd (omega (arith, ap length (sym e ∙ e')))
file_fault_same (unknown kind rest e nf nt is) (empty e' is') = absurd (omega (arith, ap length (sym e' ∙ e)))
file_fault_same (unknown kind rest e nf nt is) (unknown kind' rest' e' nf' nt' is') = is ∙ sym is'
file_fault_same (unknown kind rest e nf nt is) (in_floor rest' e' x) = absurd (nf (heads (sym e ∙ e')))
file_fault_same (unknown kind rest e nf nt is) (in_tape rest' e' x) = absurd (nt (heads (sym e ∙ e')))
file_fault_same (in_floor rest e x) (empty e' is) = absurd (omega (arith, ap length (sym e' ∙ e)))
file_fault_same (in_floor rest e x) (unknown kind rest' e' nf nt is) = absurd (nf (heads (sym e' ∙ e)))
file_fault_same (in_floor rest e x) (in_floor rest' e' y) = same_rest (tails (sym e ∙ e')) x y
file_fault_same (in_floor rest e x) (in_tape rest' e' y) = absurd (omega (arith, heads (sym e ∙ e')))
file_fault_same (in_tape rest e x) (empty e' is) = absurd (omega (arith, ap length (sym e' ∙ e)))
file_fault_same (in_tape rest e x) (unknown kind rest' e' nf nt is) = absurd (nt (heads (sym e' ∙ e)))
file_fault_same (in_tape rest e x) (in_floor rest' e' y) = absurd (omega (arith, heads (sym e ∙ e')))
file_fault_same (in_tape rest e x) (in_tape rest' e' y) = same_rest (tails (sym e ∙ e')) x y

-- no file describes two sites
layout_same : {file : List ℕ} {t : Tables} (d e : SiteDescription) → Accepts file t d → Accepts file t e → d ≡ e
layout_same (a_floor d) (a_floor e) a b = ap a_floor (floor_same d e a.keeps b.keeps (tails (sym a.laid_out ∙ b.laid_out)))
layout_same (a_floor d) (a_tape e) a b = absurd (omega (arith, heads (sym a.laid_out ∙ b.laid_out)))
layout_same (a_tape d) (a_floor e) a b = absurd (omega (arith, heads (sym a.laid_out ∙ b.laid_out)))
layout_same (a_tape d) (a_tape e) a b = ap a_tape (tape_same d e a.keeps b.keeps (tails (sym a.laid_out ∙ b.laid_out)))

-- What a load did

pub load_faulty : {file : List ℕ} {t : Tables} {f : Fault} → FileFault file t f → Loads file t t (Err f)
load_faulty x = record {
  answer = x;
  accepted = λ d a. absurd (never_both d x a);
  faulty = λ g y. (ap Err (file_fault_same x y), refl);
}

load_accepted : {file : List ℕ} {t : Tables} (d : SiteDescription) → Accepts file t d → Loads file t (filled d t) (Ok (head_of d))
load_accepted {t = t} d a = record {
  answer = (d, a, refl);
  accepted = λ e b. let same = layout_same d e a b in (ap (λ x. Ok (head_of x)) same, ap (λ x. filled x t) same);
  faulty = λ f x. absurd (never_both d x a);
}

-- The two kinds

pub floor_loads : (size : ℕ) {file bytes : List ℕ} {cells cells' : List Cell} (places : List Place) (lanes : List Lane) {head : FloorHead} → file ≡ floor_kind ∷ bytes → LoadsFloor size bytes cells cells' (Ok head) → Loads file (tables_of cells places lanes) (tables_of cells' places lanes) (Ok (Floor head))
floor_loads size {file} {bytes} {cells} {cells'} places lanes {head} e l =
    let d = a_floor l.0 in
    let t = tables_of cells places lanes in
    let loads = load_accepted {file = file} {t = t} d (record { keeps = l.1; laid_out = e ∙ ap (λ b. floor_kind ∷ b) l.2; roomy = l.3 }) in
    subst (λ c. Loads file t (tables_of c places lanes) (Ok (Floor head))) (sym l.5) (subst (λ h. Loads file t (filled d t) (Ok (Floor h))) (sym l.4) loads)

pub floor_faults : {file bytes : List ℕ} {size : ℕ} {cells cells' : List Cell} (places : List Place) (lanes : List Lane) {f : Fault} → file ≡ floor_kind ∷ bytes → size ≡ length file → LoadsFloor size bytes cells cells' (Err f) → Loads file (tables_of cells places lanes) (tables_of cells' places lanes) (Err f)
floor_faults {file} {bytes} {cells = cells} places lanes {f} e long l =
    let t = tables_of cells places lanes in
    subst (λ c. Loads file t (tables_of c places lanes) (Err f)) (sym l.1) (load_faulty (in_floor bytes e (fault_at long l.0)))

pub tape_loads : (size : ℕ) {file bytes : List ℕ} (cells : List Cell) {places places' : List Place} {lanes lanes' : List Lane} {head : TapeHead} → file ≡ tape_kind ∷ bytes → LoadsTape size bytes places places' lanes lanes' (Ok head) → Loads file (tables_of cells places lanes) (tables_of cells places' lanes') (Ok (Tape head))
tape_loads size {file} cells {places} {places'} {lanes} {lanes'} {head} e l =
    let d = a_tape l.0 in
    let t = tables_of cells places lanes in
    let loads = load_accepted {file = file} {t = t} d (record { keeps = l.1; laid_out = e ∙ ap (λ b. tape_kind ∷ b) l.2; roomy = (l.3, l.4) }) in
    subst (λ h. Loads file t (tables_of cells places' lanes') (Ok (Tape h))) (sym l.5)
    (subst (λ p. Loads file t (tables_of cells p lanes') (Ok (head_of d))) (sym l.6) (subst (λ k. Loads file t (tables_of cells (filled d t).places k) (Ok (head_of d))) (sym l.7) loads))

pub tape_faults : {file bytes : List ℕ} {size : ℕ} (cells : List Cell) {places places' : List Place} {lanes lanes' : List Lane} {f : Fault} → file ≡ tape_kind ∷ bytes → size ≡ length file → LoadsTape size bytes places places' lanes lanes' (Err f) → Loads file (tables_of cells places lanes) (tables_of cells places' lanes') (Err f)
tape_faults {file} {bytes} cells {places} {lanes = lanes} {lanes' = lanes'} {f = f} e long l =
    let t = tables_of cells places lanes in
    subst (λ p. Loads file t (tables_of cells p lanes') (Err f)) (sym l.1) (subst (λ k. Loads file t (tables_of cells places k) (Err f)) (sym l.2) (load_faulty (in_tape bytes e (fault_at long l.0))))
