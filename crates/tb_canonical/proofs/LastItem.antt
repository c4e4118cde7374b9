-- The last item of a list, to which records that follow belong.
use Rattle.std.proofs.Common.{◌≡◌, ◌∙◌, ap, refl, sym, ◌<◌, List, [], ◌∷◌, ◌++◌, length, map, Some, arith}
use Rattle.std.proofs.Math.Seq.{get_or-append_seam}
use Rattle.std.proofs.lemmas.List.{get_or-map, get_or_append_left, length-append, length-map}
use Rattle.std.specs.Prelude.{slice_get}
use Rattle.std.specs.Str.{bytes_eq}
use Rattle.tb_detail.specs.Names.{AreNamed, Text}
use Rattle.tb_reading.specs.Drafts.{changed_at}
use Rattle.tb_reading.specs.Names.{place_of}
use Rattle.tb_canonical.proofs.FieldReading.{first_place, position_at}

pub last_got : {X : Type 0} (before : List X) (x : X) → slice_get (before ++ (x ∷ [])) (length before) ≡ Some x
last_got [] x = refl
last_got (y ∷ before) x = last_got before x

pub last_changed : {X : Type 0} (before : List X) (x : X) (change : X → X) → changed_at (length before) change (before ++ (x ∷ [])) ≡ before ++ (change x ∷ [])
last_changed [] x change = refl
last_changed {X} (y ∷ before) x change = ap (λ (l : List X). y ∷ l) (last_changed before x change)

-- its name is found at its place, also while it isn't whole yet
pub last_placed : {X : Type 0} (name : X → Text) (before : List X) (x : X) (after : List X) (y : X) → AreNamed name (before ++ (x ∷ after)) → name y ≡ name x
    → place_of (map name (before ++ (y ∷ []))) (name x) ≡ Some (length before)
last_placed name before x after y h same =
    position_at (bytes_eq (name x)) names (length before)
    (first_place (name x) names (length before) within
    (get_or-map name (before ++ (y ∷ [])) (length before) x [] inside ∙ ap name (get_or-append_seam before y [] x) ∙ same)
    (λ k l s. h.distinct k (length before) x l (let t = length-append before (x ∷ after) in omega arith)
    (ap name (get_or_append_left before (x ∷ after) x k l)
    ∙ ap name (sym (get_or_append_left before (y ∷ []) x k l))
    ∙ sym (get_or-map name (before ++ (y ∷ [])) k x [] (let t = length-append before (y ∷ []) in omega arith))
    ∙ s ∙ ap name (sym (get_or-append_seam before x after x)))))
    within
  where
    names : List Text
    names = map name (before ++ (y ∷ []))

    inside : length before < length (before ++ (y ∷ []))
    inside = omega (arith, length-append before (y ∷ []))

    within : length before < length names
    within = omega (arith, length-map (before ++ (y ∷ [])) name, inside)
