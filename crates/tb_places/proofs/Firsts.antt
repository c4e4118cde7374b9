-- There is one first of its kind, where what is good isn't bad.
use Rattle.std.proofs.Common.{◌≡◌, ℕ, ⊎_elim}
use Rattle.std.proofs.lemmas.Bool.{cases_order}
use Rattle.tb_places.specs.Ranges.{IsFirst}

pub one_first : {A : Type 0} (number : A → ℕ) (In Good Bad : A → Type 0) (x y : A) → ((z : A) → In z → Good z → Bad z → ⊥) →
    IsFirst number In Good Bad x → IsFirst number In Good Bad y → number x ≡ number y
one_first number In Good Bad x y apart first other =
    ⊎_elim (λ same. same)
    (λ differ. ⊎_elim (λ less. absurd (apart x first.in_set (other.before x first.in_set less) first.is_bad))
    (λ more. absurd (apart y other.in_set (first.before y other.in_set more) other.is_bad)) differ)
    (cases_order (number x) (number y))
