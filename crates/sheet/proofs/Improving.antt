-- A sheet in which one place got an entry whose key is at most what it was. Assumes nothing.
use Rattle.std.proofs.Common.{◌≡◌, ℕ, ◌<◌, true, List, length, get_or, set, sym, ap, ◌∙◌, subst, ⊎_elim, arith, length-set, get_or-set_other, get_or-set_same}
use Rattle.std.proofs.lemmas.Bool.{cases_eq}
use Rattle.cost.specs.declared.lengths.Length.{Length}
use Rattle.cost.specs.Costs.{Kind, Laws}
use Rattle.cost.specs.Lengths.{AtMost, length_le}
use Rattle.cost.proofs.LengthLemmas.{at_most_refl, at_most_trans}
use Rattle.queue.specs.declared.Queue.{Queue}
use Rattle.queue.specs.Queues.{Ordered, Stale}
use Rattle.queue.proofs.Keys.{Falls, stale}
use Rattle.sheet.specs.declared.Entry.{Entry}
use Rattle.sheet.specs.Sheets.{blank, Keyed, by, ranks_by_key}

module _ {C : Type 0} (sheet : List (Entry C)) (p : ℕ) (e : Entry C) where
  pub put_others : (x : ℕ) → (x ≡ p → ⊥) → get_or (set sheet p e) x blank ≡ get_or sheet x blank
  put_others x away = get_or-set_other sheet p x e blank away

  pub put_here : p < length sheet → get_or (set sheet p e) p blank ≡ e
  put_here listed = get_or-set_same sheet p e blank listed

module _ {C : Type 0} (reads : Entry C → Type 0) (sheet : List (Entry C)) (p : ℕ) (e : Entry C) (listed : p < length sheet) (readable : reads e) where
  pub keyed_here : Keyed reads (set sheet p e) p
  keyed_here = record { listed = omega (arith, length-set sheet p e); readable = subst reads (sym (put_here sheet p e listed)) readable }

  pub still_keyed : (x : ℕ) → Keyed reads sheet x → Keyed reads (set sheet p e) x
  still_keyed x h = ⊎_elim
      (λ (d : x ≡ p). subst (Keyed reads (set sheet p e)) (sym d) keyed_here)
      (λ (d : x ≡ p → ⊥). record { listed = omega (arith, length-set sheet p e, h.listed); readable = subst reads (sym (put_others sheet p e x d)) h.readable }) (cases_eq x p)

  module _ {K : Kind C} (laws : Laws K) (key : Entry C → Length C) (lesser : length_le K (key e) (key (get_or sheet p blank)) ≡ true) where
    key_others : (x : ℕ) → (x ≡ p → ⊥) → key (get_or (set sheet p e) x blank) ≡ key (get_or sheet x blank)
    key_others x away = ap key (put_others sheet p e x away)

    falls : Falls (by K key sheet) (by K key (set sheet p e)) p
    falls = record {
      same = λ x y a b. (λ t. length_le K (key_others x a t) (key_others y b t));
      less = λ y h. ⊎_elim
          (λ (d : y ≡ p). ap (λ t. by K key (set sheet p e) p t) d ∙ (at_most_refl laws (key (get_or (set sheet p e) p blank))).holds)
          (λ (d : y ≡ p → ⊥). (λ t. length_le K (ap key (put_here sheet p e listed) t) (key_others y d t)) ∙ chain y h) (cases_eq y p);
    }
      where
        chain : (y : ℕ) → by K key sheet p y ≡ true → length_le K (key e) (key (get_or sheet y blank)) ≡ true
        chain y h =
            let first : AtMost K (key e) (key (get_or sheet p blank)) = record { holds = lesser } in
            let second : AtMost K (key (get_or sheet p blank)) (key (get_or sheet y blank)) = record { holds = h } in
            (at_most_trans laws first second).holds

    pub improved_stale : (q : Queue) → Ordered (Keyed reads sheet) (by K key sheet) q → Stale (Keyed reads (set sheet p e)) (by K key (set sheet p e)) q p
    improved_stale q = stale (ranks_by_key laws key sheet) falls (Keyed reads sheet) (Keyed reads (set sheet p e)) q (λ x _. still_keyed x)
