-- Things with names of which no two are the same, as far as they have been seen.
use Rattle.std.proofs.Common.{◌≡◌, ◌≢◌, ℕ, ◌<◌, List, length, take, get_or, Bool, true, false, sym, ap, ◌∙◌, AllPairs, Any, arith, true≢false}
use Rattle.std.proofs.lemmas.List.{get_or-take, get_or_default, length-take}
use Rattle.std.proofs.lemmas.List.Folds.{list_any_at, Any-from_list_any}
use Rattle.std.proofs.lemmas.Slice.Eq.{bytes_eq-Decides}
use Rattle.std.specs.List.{list_any}
use Rattle.std.specs.Str.{bytes_eq}
use Rattle.tb_detail.specs.Names.{Text}

module _ {X : Type 0} (name : X → Text) (things : List X) where
  abbrev pub has_name_of : X → X → Bool
  has_name_of thing other = bytes_eq (name other) (name thing)

  -- the thing at each place below this one has another name than those before it
  abbrev pub AreNewBelow : ℕ → Type 0
  AreNewBelow n = (j : ℕ) (d : X) → j < n → list_any (has_name_of (get_or things j d)) (take j things) ≡ false

  pub distinct_from_new : AreNewBelow (length things) → AllPairs (λ thing other. name thing ≢ name other) things
  distinct_from_new new i j d first within same =
      true≢false (sym (list_any_at (has_name_of (get_or things j d)) (take j things) i d before here) ∙ new j d within)
    where
      before : i < length (take j things)
      before = omega (arith, length-take {A = X})

      here : has_name_of (get_or things j d) (get_or (take j things) i d) ≡ true
      here = rw (get_or-take j things i d first) ((bytes_eq-Decides (name (get_or things i d)) (name (get_or things j d))).1 same)

  pub known_not_distinct : (j : ℕ) (thing : X) → j < length things → thing ≡ get_or things j thing → list_any (has_name_of thing) (take j things) ≡ true → AllPairs (λ thing other. name thing ≢ name other) things → ⊥
  known_not_distinct j thing within is known distinct = by (Any-from_list_any (has_name_of thing) (take j things) known)
    where
      by : Any (λ other. has_name_of thing other ≡ true) (take j things) → ⊥
      by (i, x, before, here, same) =
          let first : i < j = omega (arith, length-take {A = X}) in
          distinct i j x first within
          (ap name (sym (get_or-take j things i x first) ∙ here)
          ∙ (bytes_eq-Decides (name x) (name thing)).0 same
          ∙ ap name (is ∙ get_or_default things j thing x within))
