-- Arrays that are filled from a list, item by item.
use Rattle.std.proofs.Common.{◌≡◌, ◌∙◌, sym, ap, ℕ, ◌+◌, ◌<◌, List, [], ◌∷◌, ◌++◌, length, take, map, get_or, add-one}
use Rattle.std.proofs.Math.ListN.{set}
use Rattle.std.proofs.Math.Seq.{take-suc, take-suc-set}
use Rattle.std.proofs.lemmas.List.{map-append}
use Rattle.std.proofs.lemmas.List.Elements.{All-push}
use Rattle.std.specs.Prelude.{All}

pub filled : {A B : Type 0} (f : A → B) (xs : List A) (ys : List B) (i : ℕ) (x : A) (v : B) → i < length ys → i < length xs → x ≡ get_or xs i x → v ≡ f x
    → take i ys ≡ map f (take i xs) → take (i + 1) (set ys i v) ≡ map f (take (i + 1) xs)
filled f xs ys i x v h k is e so_far = rw add-one (take-suc-set ys i v h ∙ (λ t. so_far t ++ e t ∷ []) ∙ sym (ap (map f) (take-suc xs i x k)
    ∙ map-append f (take i xs) (get_or xs i x ∷ []) ∙ ap (λ t. map f (take i xs) ++ f t ∷ []) (sym is)))

pub all_filled : {B : Type 0} (P : B → Type 0) (ys : List B) (i : ℕ) (v : B) → i < length ys → All P (take i ys) → P v → All P (take (i + 1) (set ys i v))
all_filled P ys i v h so_far here = rw (add-one, take-suc-set ys i v h) (All-push P (take i ys) v so_far here)
