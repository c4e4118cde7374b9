-- What holds of the few elements of a list that is written out, and of lists one behind the other.
use Rattle.std.proofs.Common.{inl, inr, List, [], ◌∷◌, ◌++◌, arith}
use Rattle.std.specs.List.{All, AllPairs, Any}
use Rattle.std.proofs.lemmas.List.Elements.{All-cons, All-nil}
use Rattle.std.proofs.lemmas.List.Kept.{AllPairs-cons}
use Rattle.tb_geometry.proofs.Members.{first, first_or_later, later, not_in_none}

module _ {A : Type 0} (P : A → Type 0) where
  all_of_one : (a : A) → P a → All P (a ∷ [])
  all_of_one a p = All-cons P a [] p (All-nil P)

  pub all_of_two : (a b : A) → P a → P b → All P (a ∷ b ∷ [])
  all_of_two a b p q = All-cons P a (b ∷ []) p (all_of_one b q)

  pub all_of_three : (a b c : A) → P a → P b → P c → All P (a ∷ b ∷ c ∷ [])
  all_of_three a b c p q r = All-cons P a (b ∷ c ∷ []) p (all_of_two b c q r)

  pub all_of_four : (a b c d : A) → P a → P b → P c → P d → All P (a ∷ b ∷ c ∷ d ∷ [])
  all_of_four a b c d p q r s = All-cons P a (b ∷ c ∷ d ∷ []) p (all_of_three b c d q r s)

  pub any_left : (xs ys : List A) → Any P xs → Any P (xs ++ ys)
  any_left [] ys some = absurd (not_in_none P some)
  any_left (x ∷ xs) ys some = elim (first_or_later P x xs some) [
    | inl here ↦ first P x (xs ++ ys) here
    | inr there ↦ later P x (xs ++ ys) (any_left xs ys there)
  ]

  pub any_right : (xs ys : List A) → Any P ys → Any P (xs ++ ys)
  any_right [] ys some = some
  any_right (x ∷ xs) ys some = later P x (xs ++ ys) (any_right xs ys some)

module _ {A : Type 0} (R : A → A → Type 0) where
  pub no_pairs : AllPairs R []
  no_pairs i j d less within = absurd (omega arith)

  pairs_of_one : (a : A) → AllPairs R (a ∷ [])
  pairs_of_one a = AllPairs-cons R a [] (All-nil (R a)) no_pairs

  pub pairs_of_two : (a b : A) → R a b → AllPairs R (a ∷ b ∷ [])
  pairs_of_two a b p = AllPairs-cons R a (b ∷ []) (all_of_one (R a) b p) (pairs_of_one b)

  pub pairs_of_three : (a b c : A) → R a b → R a c → R b c → AllPairs R (a ∷ b ∷ c ∷ [])
  pairs_of_three a b c p q r = AllPairs-cons R a (b ∷ c ∷ []) (all_of_two (R a) b c p q) (pairs_of_two b c r)
