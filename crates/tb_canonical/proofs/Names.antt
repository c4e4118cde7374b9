-- The names of the things of a detail, where they are declared and where they are used.
use Rattle.std.proofs.Common.{◌≡◌, ◌∙◌, ap, sym, subst, ℕ, ◌<◌, List, [], ◌∷◌, ◌++◌, length, map, All, arith}
use Rattle.std.proofs.lemmas.List.{get_or-map}
use Rattle.std.proofs.lemmas.List.Elements.{All-weaker}
use Rattle.tb_detail.specs.Names.{AreNamed, Text, is_name}
use Rattle.tb_canonical.specs.Canonical.{name_at}
use Rattle.tb_canonical.proofs.FieldReading.{formed, is_new, place_read}
use Rattle.tb_canonical.proofs.LastItem.{last_placed}
use Rattle.tb_canonical.proofs.RowReading.{IsAt, IsNew}

module _ {X : Type 0} (name : X → Text) where
  -- a name that a thing declares behind those before it
  pub declared : (before : List X) (x : X) (after all : List X) → before ++ (x ∷ after) ≡ all → AreNamed name all → IsNew (map name before) (name x)
  declared before x after all split h =
      let here : AreNamed name (before ++ (x ∷ after)) = subst (λ (xs : List X). AreNamed name xs) (sym split) h in
      record { formed = formed name before x after here; new = is_new name before x after here }

  -- the name of the last thing so far, which isn't whole yet
  pub owner : (before : List X) (x : X) (after all : List X) (y : X) → before ++ (x ∷ after) ≡ all → AreNamed name all → name y ≡ name x
      → IsAt (map name (before ++ (y ∷ []))) (name x) (length before)
  owner before x after all y split h same =
      let here : AreNamed name (before ++ (x ∷ after)) = subst (λ (xs : List X). AreNamed name xs) (sym split) h in
      record { formed = formed name before x after here; found = last_placed name before x after y here same }

  -- a name that is used
  pub known : (xs : List X) (place : ℕ) → AreNamed name xs → place < length xs → IsAt (map name xs) (name_at (map name xs) place) place
  known [] place h l = absurd (omega arith)
  known (x ∷ xs) place h l = record {
    formed = ap is_name (get_or-map name (x ∷ xs) place x [] l) ∙ h.formed place x l;
    found = place_read name (x ∷ xs) place h l;
  }

  pub all_known : (xs : List X) (places : List ℕ) → AreNamed name xs → All (λ place. place < length xs) places
      → All (λ place. IsAt (map name xs) (name_at (map name xs) place) place) places
  all_known xs places h l = All-weaker (λ place. place < length xs) (λ place. IsAt (map name xs) (name_at (map name xs) place) place) (λ place w. known xs place h w) places l
