-- Lists that are written item by item.
use Rattle.std.proofs.Common.{◌≡◌, ◌∙◌, ap, ◌+◌, ◌<◌, ℕ, List, [], ◌∷◌, ◌++◌, length, take, get_or, Option, add-one, append-nil}
use Rattle.std.proofs.Math.Seq.{take-suc}
use Rattle.std.proofs.lemmas.Grind.{flat_map-append}
use Rattle.std.specs.List.{flat_map}
use Rattle.tb_outside.proofs.Gathered.{gathers_both}
use Rattle.tb_outside.specs.Buffers.{Gathers}

-- one item more
pub each_next : {T : Type 0} (f : T → List ℕ) (xs : List T) (i : ℕ) (d : T) → i < length xs
    → flat_map f (take (i + 1) xs) ≡ flat_map f (take i xs) ++ f (get_or xs i d)
each_next f xs i d h =
    rw (add-one, take-suc xs i d h) (flat_map-append f (take i xs) (get_or xs i d ∷ []) ∙ ap (λ t. flat_map f (take i xs) ++ t) (append-nil (f (get_or xs i d))))

-- an item behind those before it, where the item is copied out of the list
pub gathers_next : {T K : Type 0} {h : K → Option (List ℕ)} {f : K → ℕ} {a b c : K} {u v w : Option (List ℕ)} (text : T → List ℕ) (xs : List T) (i : ℕ) (d : T) → i < length xs
    → Gathers h f a b u (flat_map text (take i xs)) v → Gathers h f b c v (text (get_or xs i d)) w → Gathers h f a c u (flat_map text (take (i + 1) xs)) w
gathers_next text xs i d fits before item = rw (each_next text xs i d fits) (gathers_both before item)

-- and where it is looked at in the list
pub gathers_next_item : {T K : Type 0} {h : K → Option (List ℕ)} {f : K → ℕ} {a b c : K} {u v w : Option (List ℕ)} (text : T → List ℕ) (xs : List T) (i : ℕ) (x : T) → x ≡ get_or xs i x → i < length xs
    → Gathers h f a b u (flat_map text (take i xs)) v → Gathers h f b c v (text x) w → Gathers h f a c u (flat_map text (take (i + 1) xs)) w
gathers_next_item text xs i x is fits before item = gathers_next text xs i x fits before (rw is at item)
