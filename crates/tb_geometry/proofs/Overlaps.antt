-- Two boxes meet exactly where they share a cube, and which two are the first.
use Rattle.std.proofs.Common.{◌≡◌, ℕ, ◌+◌, ◌-◌, ◌<◌, ◌≤◌, inl, inr, ⊎_elim, Bool, true, false, ◌&&◌, List, length, get_or, drop, Some, None, take, subst, sym, ◌∙◌, arith, ltb}
use Rattle.std.specs.List.{position, position_or_len}
use Rattle.std.proofs.lemmas.Bool.{cases_lt, lt-ltb, le-ltb, ltb-true}
use Rattle.std.proofs.lemmas.List.{get_or-drop, get_or-take, get_or_default, length-drop, length-take-le}
use Rattle.std.proofs.lemmas.List.Sums.{fails_before_first, passes_at_first}
use Rattle.tb_places.specs.declared.AxisName.{AxisName}
use Rattle.tb_places.specs.declared.AxisName.TheVariants.{X, Y, Z}
use Rattle.tb_detail.specs.declared.SpaceBox.{SpaceBox}
use Rattle.tb_model.specs.Refinement.{low, high}
use Rattle.tb_geometry.specs.Bodies.{AreBoxes, IsProper}
use Rattle.tb_geometry.specs.Cubes.{AreApart, IsFirstOverlap, Overlap, ReachesOver, ShareCube}
use Rattle.tb_geometry.specs.Boxes.{meet, meet_along}
use Rattle.tb_geometry.proofs.Tested.{both_true}

-- ---- the first place at which a test passes
record IsFirstPass {A : Type 0} (p : A → Bool) (xs : List A) (n : ℕ) : Type 0 where
  within : n < length xs
  passes : (d : A) → p (get_or xs n d) ≡ true
  fails : (k : ℕ) (d : A) → k < n → p (get_or xs k d) ≡ false

found_at : {A : Type 0} (p : A → Bool) (xs : List A) → position_or_len p xs < length xs → position p xs ≡ Some (position_or_len p xs)
found_at p xs within = rw (lt-ltb (position_or_len p xs) (length xs) within)

found_nowhere : {A : Type 0} (p : A → Bool) (xs : List A) → length xs ≤ position_or_len p xs → position p xs ≡ None
found_nowhere p xs past = rw (le-ltb (position_or_len p xs) (length xs) past)

first_pass : {A : Type 0} (p : A → Bool) (xs : List A) (n : ℕ) → position p xs ≡ Some n → IsFirstPass p xs n
first_pass p xs n is =
    ⊎_elim (λ (within : position_or_len p xs < length xs).
    let at = found_at p xs within in
    let same : position_or_len p xs ≡ n = cc in
    record {
      within = omega arith;
      passes = λ d. subst (λ (m : ℕ). p (get_or xs m d) ≡ true) same (passes_at_first p xs d within);
      fails = λ k d below. fails_before_first p xs k d (omega arith);
    })
    (λ (past : length xs ≤ position_or_len p xs). let at = found_nowhere p xs past in absurd (cc))
    (cases_lt (position_or_len p xs) (length xs))

no_pass : {A : Type 0} (p : A → Bool) (xs : List A) → position p xs ≡ None → (k : ℕ) (d : A) → k < length xs → p (get_or xs k d) ≡ false
no_pass p xs is k d within =
    ⊎_elim (λ (inside : position_or_len p xs < length xs). let at = found_at p xs inside in absurd (cc))
    (λ (past : length xs ≤ position_or_len p xs). fails_before_first p xs k d (omega arith))
    (cases_lt (position_or_len p xs) (length xs))

-- ---- on an axis
-- some coordinate is in both ranges
record Common (a : AxisName) (b c : SpaceBox) : Type 0 where
  at : ℕ
  first : ReachesOver a b at
  second : ReachesOver a c at

common_from_meet : (a : AxisName) (b c : SpaceBox) → low a b < high a b → low a c < high a c → meet_along a b c ≡ true → Common a b c
common_from_meet a b c b_proper c_proper met =
    let both = both_true (ltb (low a b) (high a c)) (ltb (low a c) (high a b)) met in
    let one : low a b < high a c = ltb-true (low a b) (high a c) both.0 in
    let other : low a c < high a b = ltb-true (low a c) (high a b) both.1 in
    ⊎_elim (λ (early : low a b < low a c).
    record { at = low a c; first = record { from = omega arith; below = other }; second = record { from = omega arith; below = c_proper } })
    (λ (late : low a c ≤ low a b).
    record { at = low a b; first = record { from = omega arith; below = b_proper }; second = record { from = late; below = one } })
    (cases_lt (low a b) (low a c))

meet_from_common : (a : AxisName) (b c : SpaceBox) (x : ℕ) → ReachesOver a b x → ReachesOver a c x → meet_along a b c ≡ true
meet_from_common a b c x in_b in_c =
    let p : low a b ≤ x = in_b.from in
    let q : x < high a b = in_b.below in
    let r : low a c ≤ x = in_c.from in
    let s : x < high a c = in_c.below in
    rw (lt-ltb (low a b) (high a c) (omega arith), lt-ltb (low a c) (high a b) (omega arith))

-- ---- on all axes
pub share_from_meet : (b c : SpaceBox) → IsProper b → IsProper c → meet b c ≡ true → ShareCube b c
share_from_meet b c b_proper c_proper met =
    let all = both_true (meet_along X b c && meet_along Y b c) (meet_along Z b c) met in
    let two = both_true (meet_along X b c) (meet_along Y b c) all.0 in
    let x = common_from_meet X b c (b_proper X) (c_proper X) two.0 in
    let y = common_from_meet Y b c (b_proper Y) (c_proper Y) two.1 in
    let z = common_from_meet Z b c (b_proper Z) (c_proper Z) all.1 in
    record {
      at_x = x.at;
      at_y = y.at;
      at_z = z.at;
      first = record { on_x = x.first; on_y = y.first; on_z = z.first };
      second = record { on_x = x.second; on_y = y.second; on_z = z.second };
    }

pub meet_from_share : (b c : SpaceBox) → ShareCube b c → meet b c ≡ true
meet_from_share b c s =
    rw (
      meet_from_common X b c s.at_x s.first.on_x s.second.on_x,
      meet_from_common Y b c s.at_y s.first.on_y s.second.on_y,
      meet_from_common Z b c s.at_z s.first.on_z s.second.on_z,
    )

-- ---- in a list of boxes
-- the boxes behind box i
abbrev rest : List SpaceBox → ℕ → List SpaceBox
rest boxes i = take (length boxes - (i + 1)) (drop (i + 1) boxes)

rest_at : (boxes : List SpaceBox) (i k : ℕ) (d : SpaceBox) → i + 1 + k < length boxes → get_or (rest boxes i) k d ≡ get_or boxes (i + 1 + k) d
rest_at boxes i k d within =
    get_or-take (length boxes - (i + 1)) (drop (i + 1) boxes) k d (omega arith) ∙ get_or-drop (i + 1) boxes k d

rest_length : (boxes : List SpaceBox) (i : ℕ) → length (rest boxes i) ≡ length boxes - (i + 1)
rest_length boxes i = length-take-le (length boxes - (i + 1)) (drop (i + 1) boxes) (omega (arith, length-drop (i + 1) boxes))

-- the earlier box of an overlap meets the later one
meets_later : (boxes : List SpaceBox) (i q : ℕ) (e : SpaceBox) → Overlap boxes (i + 1) q →
    meet (get_or boxes i e) (get_or (rest boxes i) (q - (i + 2)) e) ≡ true
meets_later boxes i q e o =
    let order : i + 1 < q = o.in_order in
    let within : q ≤ length boxes = o.within in
    let back : i + 1 - 1 ≡ i = omega arith in
    let place : i + 1 + (q - (i + 2)) ≡ q - 1 = omega arith in
    let at = rest_at boxes i (q - (i + 2)) e (omega arith) in
    let shared : ShareCube (get_or boxes i e) (get_or boxes (q - 1) e) =
    subst (λ (m : ℕ). ShareCube (get_or boxes m e) (get_or boxes (q - 1) e)) back (o.shared e) in
    rw (at, place) (meet_from_share (get_or boxes i e) (get_or boxes (q - 1) e) shared)

-- where box i meets no later one, the earlier box of each overlap stands behind it
pub later_overlaps : (boxes : List SpaceBox) (i : ℕ) (e : SpaceBox) → position (meet (get_or boxes i e)) (rest boxes i) ≡ None →
    ((p q : ℕ) → Overlap boxes p q → i < p) → (p q : ℕ) → Overlap boxes p q → i + 1 < p
later_overlaps boxes i e none before p q o =
    let behind : i < p = before p q o in
    ⊎_elim (λ (later : i + 1 < p). later)
    (λ (here : p ≤ i + 1).
    let same : p ≡ i + 1 = omega arith in
    let at : Overlap boxes (i + 1) q = subst (λ (m : ℕ). Overlap boxes m q) same o in
    let order : i + 1 < q = at.in_order in
    let within : q ≤ length boxes = at.within in
    let long : length (rest boxes i) ≡ length boxes - (i + 1) = rest_length boxes i in
    let apart = no_pass (meet (get_or boxes i e)) (rest boxes i) none (q - (i + 2)) e (omega arith) in
    let met = meets_later boxes i q e at in
    absurd (cc))
    (cases_lt (i + 1) p)

-- where box i is the first that meets a later one, this and the first that it meets are the first overlap
pub overlap_found : (boxes : List SpaceBox) (i n : ℕ) (e : SpaceBox) → AreBoxes boxes → i < length boxes →
    position (meet (get_or boxes i e)) (rest boxes i) ≡ Some n → ((p q : ℕ) → Overlap boxes p q → i < p) →
    IsFirstOverlap boxes (i + 1) (i + n + 2)
overlap_found boxes i n e are here is before =
    let pass = first_pass (meet (get_or boxes i e)) (rest boxes i) n is in
    let long : length (rest boxes i) ≡ length boxes - (i + 1) = rest_length boxes i in
    let within : n < length (rest boxes i) = pass.within in
    let back : i + 1 - 1 ≡ i = omega arith in
    let later : i + n + 2 - 1 ≡ i + 1 + n = omega arith in
    record {
      overlap = record {
        counted = omega arith;
        in_order = omega arith;
        within = omega arith;
        shared = λ d.
            let one = get_or_default boxes i e d here in
            let met : meet (get_or boxes i d) (get_or boxes (i + 1 + n) d) ≡ true = rw (← one, ← rest_at boxes i n d (omega arith)) (pass.passes d) in
            rw (back, later)
            (share_from_meet (get_or boxes i d) (get_or boxes (i + 1 + n) d) (are.proper i d here) (are.proper (i + 1 + n) d (omega arith)) met);
      };
      first = λ p q o.
          let behind : i < p = before p q o in
          ⊎_elim (λ (much : i + 1 < p). inl much)
          (λ (close : p ≤ i + 1).
          let same : p ≡ i + 1 = omega arith in
          inr (
            sym same,
            ⊎_elim (λ (early : q < i + n + 2).
                let at : Overlap boxes (i + 1) q = subst (λ (m : ℕ). Overlap boxes m q) same o in
                let order : i + 1 < q = at.in_order in
                let met = meets_later boxes i q e at in
                let fail = pass.fails (q - (i + 2)) e (omega arith) in
                absurd (cc))
                (λ (late : i + n + 2 ≤ q). late) (cases_lt q (i + n + 2)),
          ))
          (cases_lt (i + 1) p);
    }

-- where there is no overlap, all boxes are apart
pub apart_from_none : (boxes : List SpaceBox) (n : ℕ) → length boxes ≤ n → ((p q : ℕ) → Overlap boxes p q → n < p) → AreApart boxes
apart_from_none boxes n all none i j d order within shared =
    let late : n < i + 1 = none (i + 1) (j + 1) (record {
      counted = omega arith;
      in_order = omega arith;
      within = omega arith;
      shared = λ e.
          let first = get_or_default boxes i e d (omega arith) in
          let second = get_or_default boxes j e d within in
          let back_i : i + 1 - 1 ≡ i = omega arith in
          let back_j : j + 1 - 1 ≡ j = omega arith in
          rw (back_i, back_j, first, second) shared;
    }) in
    omega arith
