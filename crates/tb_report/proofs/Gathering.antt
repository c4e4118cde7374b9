-- Lines that are put one after the other.
use Rattle.std.proofs.Common.{◌≡◌, ℕ, ◌+◌, ◌<◌, List, ◌++◌, length, get_or, Option, add-one, append_assoc}
use Rattle.tb_factors.specs.Joined.{joined}
use Rattle.tb_outside.proofs.Gathered.{gathers_both}
use Rattle.tb_outside.specs.Buffers.{Gathers}

-- one line more
pub gathers_joined : {K : Type 0} {h : K → Option (List ℕ)} {f : K → ℕ} {a b c : K} {u v w : Option (List ℕ)} (text : ℕ → List ℕ) (i : ℕ)
    → Gathers h f a b u (joined i text) v → Gathers h f b c v (text i) w → Gathers h f a c u (joined (i + 1) text) w
gathers_joined text i before line = rw add-one (gathers_both before line)

pub four_pieces : (a b c d : List ℕ) → a ++ (b ++ (c ++ d)) ≡ a ++ b ++ c ++ d
four_pieces a b c d = simp append_assoc

-- what is in a list that is looked at under another name
pub there : {A : Type 0} (xs ys : List A) (i : ℕ) (x : A) → xs ≡ ys → i < length xs → x ≡ get_or xs i x → (i < length ys) × (x ≡ get_or ys i x)
there xs ys i x e within is = (rw (← e) within, rw (← e) is)
