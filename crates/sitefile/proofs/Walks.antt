-- What a reader did. Assumes nothing.
use Rattle.std.proofs.Common.{◌≡◌, ℕ, ◌+◌, length, Ok, Err, sym, refl, ap, ◌∙◌, subst, arith, length-append}
use Rattle.sitefile.specs.declared.fault.Fault.{Fault}
use Rattle.sitefile.specs.declared.reader.Reader.{Reader}
use Rattle.sitefile.specs.Readers.{ahead, size}
use Rattle.sitefile.specs.Numbers.{encode, Begins, NumberFault, ReadsNumber}
use Rattle.sitefile.proofs.Forms.{begins_same, no_fault, number_same}

pub faulty_number : {before : Reader} {f : Fault} → NumberFault (size before) (ahead before) f → ReadsNumber before before (Err f)
faulty_number x = record {
  answer = x;
  read = λ n rest s. absurd (no_fault x s);
  faulty = λ g y. (ap Err (number_same x y), refl);
}

moved : (before after : Reader) {n : ℕ} → size after ≡ size before → Begins (ahead before) n (ahead after) → after.at ≡ before.at + length (encode n)
moved before after {n} same s = omega (arith, ap length s.form ∙ length-append (encode n) (ahead after))

pub number_read : {before after : Reader} {n : ℕ} → size after ≡ size before → Begins (ahead before) n (ahead after) → ReadsNumber before after (Ok n)
number_read {before} {after} {n} same s = record {
  answer = (ahead after, s);
  read = λ m rest t.
      let both = begins_same s t in
      (ap Ok both.0, both.1, moved before after same s ∙ ap (λ k. before.at + length (encode k)) both.0);
  faulty = λ f x. absurd (no_fault x s);
}

-- the same for a caller
module _ {before after : Reader} where
  pub begins_number : {n : ℕ} → ReadsNumber before after (Ok n) → Begins (ahead before) n (ahead after)
  begins_number {n} a = let s = a.answer in subst (Begins (ahead before) n) (sym (a.read n s.0 s.1).1) s.1

  pub size_kept : {n : ℕ} → ReadsNumber before after (Ok n) → size after ≡ size before
  size_kept {n} a =
      let s = begins_number a in
      omega (arith, (a.read n (ahead after) s).2, ap length s.form ∙ length-append (encode n) (ahead after))

  pub number_fault : {f : Fault} → ReadsNumber before after (Err f) → NumberFault (size before) (ahead before) f
  number_fault a = a.answer

  pub size_stays : {f : Fault} → ReadsNumber before after (Err f) → size after ≡ size before
  size_stays {f} a = ap size (a.faulty f a.answer).1
