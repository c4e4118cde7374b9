-- Texts of records that are put piece by piece: a word, and each field behind a comma.
use Rattle.std.proofs.Common.{◌≡◌, ap, ℕ, ◌+◌, ◌<◌, List, [], ◌∷◌, ◌++◌, map, length, take, get_or, Option, append-nil}
use Rattle.std.specs.List.{flat_map, join_with_byte}
use Rattle.tb_outside.specs.Buffers.{Gathers}
use Rattle.tb_records.specs.Plain.{record_text}
use Rattle.tb_canonical.proofs.Joined.{gathers_behind}

-- a field behind a comma
abbrev pub behind_comma : {X : Type 0} → (X → List ℕ) → X → List ℕ
behind_comma text x = 44 ∷ text x

joined : {X : Type 0} (text : X → List ℕ) (word : List ℕ) (xs : List X) → word ++ flat_map (behind_comma text) xs ≡ join_with_byte 44 (word ∷ map text xs)
joined text word [] = append-nil word
joined text word (x ∷ xs) = ap (λ (t : List ℕ). word ++ (44 ∷ t)) (joined text (text x) xs)

-- the whole record
pub fields_joined : {X : Type 0} (text : X → List ℕ) (word : List ℕ) (xs : List X) → (word ++ flat_map (behind_comma text) xs) ++ (10 ∷ []) ≡ record_text (word ∷ map text xs)
fields_joined text word xs = ap (λ (t : List ℕ). t ++ (10 ∷ [])) (joined text word xs)

-- an item that is looked at in a list, behind a text and the items before it
pub gathers_behind_item : {T K : Type 0} {h : K → Option (List ℕ)} {f : K → ℕ} {a b c : K} {u v w : Option (List ℕ)} (s : List ℕ) (text : T → List ℕ) (xs : List T) (i : ℕ) (x : T) → x ≡ get_or xs i x → i < length xs
    → Gathers h f a b u (s ++ flat_map text (take i xs)) v → Gathers h f b c v (text x) w → Gathers h f a c u (s ++ flat_map text (take (i + 1) xs)) w
gathers_behind_item s text xs i x is fits before item = gathers_behind s text xs i x fits before (rw is at item)
