-- Turns of faces, one after another.
use Rattle.std.proofs.Common.{◌≡◌, refl, ap, subst, ℕ, Bool, List, [], ◌∷◌, map}
use lib.IntN.{ℤ}
use Rattle.tb_model.specs.Energy.{Case}
use Rattle.tb_model.specs.Mesh.{Mesh}
use Rattle.tb_places.specs.Places.{face_count}
use Rattle.tb_weighted.specs.Moves.{counting}
use Rattle.tb_weighted.specs.Sequences.{AreMade}
use Rattle.tb_cycle_moves.specs.Turns.{AreCycleTurns, IsCycleTurn}

each_itself : (xs : List ℕ) → map (λ (f : ℕ). f) xs ≡ xs
each_itself [] = refl
each_itself (x ∷ xs) = ap (λ (l : List ℕ). x ∷ l) (each_itself xs)

-- as many turns as there are faces
pub all_turns : (m : Mesh) (inside : Case) (k : ℕ) (old new : List ℤ) (told : Bool) → k ≡ face_count m.cells →
    AreMade (List ℤ) ℕ (IsCycleTurn m inside) (map (λ (f : ℕ). f) (counting 0 k)) old new told → AreCycleTurns m inside old new told
all_turns m inside k old new told e made =
    subst (λ (n : ℕ). AreMade (List ℤ) ℕ (IsCycleTurn m inside) (counting 0 n) old new told) e
    (subst (λ (l : List ℕ). AreMade (List ℤ) ℕ (IsCycleTurn m inside) l old new told) (each_itself (counting 0 k)) made)
