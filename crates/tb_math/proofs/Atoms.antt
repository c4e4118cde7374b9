-- The atoms of an expression: the terms that the normal form takes as variables, given as a list.
-- `atom_3` finds its value in the fourth place, and so on; one rule a place, so that `search` needs one step for any of them.
use mathlib.Core.Path.{◌≡◌, refl}
use mathlib.Core.List.{List, ◌∷◌}
use Prim.Native.Nat.{ℕ}
use Rattle.tb_math.proofs.Rings.{pick}

-- z stands in the list; `none` is what is read beyond its end
pub record Atom {A : Type 0} (none : A) (atoms : List A) (z : A) : Type 0 where
  pub place : ℕ
  pub is : pick none atoms place ≡ z

abbrev pub atom_0 : {A : Type 0} {none x0 : A} {xs : List A} → Atom none (x0 ∷ xs) x0
atom_0 = record { place = 0; is = refl }

abbrev pub atom_1 : {A : Type 0} {none x0 x1 : A} {xs : List A} → Atom none (x0 ∷ x1 ∷ xs) x1
atom_1 = record { place = 1; is = refl }

abbrev pub atom_2 : {A : Type 0} {none x0 x1 x2 : A} {xs : List A} → Atom none (x0 ∷ x1 ∷ x2 ∷ xs) x2
atom_2 = record { place = 2; is = refl }

abbrev pub atom_3 : {A : Type 0} {none x0 x1 x2 x3 : A} {xs : List A} → Atom none (x0 ∷ x1 ∷ x2 ∷ x3 ∷ xs) x3
atom_3 = record { place = 3; is = refl }

abbrev pub atom_4 : {A : Type 0} {none x0 x1 x2 x3 x4 : A} {xs : List A} → Atom none (x0 ∷ x1 ∷ x2 ∷ x3 ∷ x4 ∷ xs) x4
atom_4 = record { place = 4; is = refl }

abbrev pub atom_5 : {A : Type 0} {none x0 x1 x2 x3 x4 x5 : A} {xs : List A} → Atom none (x0 ∷ x1 ∷ x2 ∷ x3 ∷ x4 ∷ x5 ∷ xs) x5
atom_5 = record { place = 5; is = refl }

abbrev pub atom_6 : {A : Type 0} {none x0 x1 x2 x3 x4 x5 x6 : A} {xs : List A} → Atom none (x0 ∷ x1 ∷ x2 ∷ x3 ∷ x4 ∷ x5 ∷ x6 ∷ xs) x6
atom_6 = record { place = 6; is = refl }

abbrev pub atom_7 : {A : Type 0} {none x0 x1 x2 x3 x4 x5 x6 x7 : A} {xs : List A} → Atom none (x0 ∷ x1 ∷ x2 ∷ x3 ∷ x4 ∷ x5 ∷ x6 ∷ x7 ∷ xs) x7
atom_7 = record { place = 7; is = refl }

abbrev pub atom_8 : {A : Type 0} {none x0 x1 x2 x3 x4 x5 x6 x7 x8 : A} {xs : List A} → Atom none (x0 ∷ x1 ∷ x2 ∷ x3 ∷ x4 ∷ x5 ∷ x6 ∷ x7 ∷ x8 ∷ xs) x8
atom_8 = record { place = 8; is = refl }

abbrev pub atom_9 : {A : Type 0} {none x0 x1 x2 x3 x4 x5 x6 x7 x8 x9 : A} {xs : List A} →
    Atom none (x0 ∷ x1 ∷ x2 ∷ x3 ∷ x4 ∷ x5 ∷ x6 ∷ x7 ∷ x8 ∷ x9 ∷ xs) x9
atom_9 = record { place = 9; is = refl }

abbrev pub atom_10 : {A : Type 0} {none x0 x1 x2 x3 x4 x5 x6 x7 x8 x9 x10 : A} {xs : List A} →
    Atom none (x0 ∷ x1 ∷ x2 ∷ x3 ∷ x4 ∷ x5 ∷ x6 ∷ x7 ∷ x8 ∷ x9 ∷ x10 ∷ xs) x10
atom_10 = record { place = 10; is = refl }

abbrev pub atom_11 : {A : Type 0} {none x0 x1 x2 x3 x4 x5 x6 x7 x8 x9 x10 x11 : A} {xs : List A} →
    Atom none (x0 ∷ x1 ∷ x2 ∷ x3 ∷ x4 ∷ x5 ∷ x6 ∷ x7 ∷ x8 ∷ x9 ∷ x10 ∷ x11 ∷ xs) x11
atom_11 = record { place = 11; is = refl }

abbrev pub atom_12 : {A : Type 0} {none x0 x1 x2 x3 x4 x5 x6 x7 x8 x9 x10 x11 x12 : A} {xs : List A} →
    Atom none (x0 ∷ x1 ∷ x2 ∷ x3 ∷ x4 ∷ x5 ∷ x6 ∷ x7 ∷ x8 ∷ x9 ∷ x10 ∷ x11 ∷ x12 ∷ xs) x12
atom_12 = record { place = 12; is = refl }

abbrev pub atom_13 : {A : Type 0} {none x0 x1 x2 x3 x4 x5 x6 x7 x8 x9 x10 x11 x12 x13 : A} {xs : List A} →
    Atom none (x0 ∷ x1 ∷ x2 ∷ x3 ∷ x4 ∷ x5 ∷ x6 ∷ x7 ∷ x8 ∷ x9 ∷ x10 ∷ x11 ∷ x12 ∷ x13 ∷ xs) x13
atom_13 = record { place = 13; is = refl }

abbrev pub atom_14 : {A : Type 0} {none x0 x1 x2 x3 x4 x5 x6 x7 x8 x9 x10 x11 x12 x13 x14 : A} {xs : List A} →
    Atom none (x0 ∷ x1 ∷ x2 ∷ x3 ∷ x4 ∷ x5 ∷ x6 ∷ x7 ∷ x8 ∷ x9 ∷ x10 ∷ x11 ∷ x12 ∷ x13 ∷ x14 ∷ xs) x14
atom_14 = record { place = 14; is = refl }

abbrev pub atom_15 : {A : Type 0} {none x0 x1 x2 x3 x4 x5 x6 x7 x8 x9 x10 x11 x12 x13 x14 x15 : A} {xs : List A} →
    Atom none (x0 ∷ x1 ∷ x2 ∷ x3 ∷ x4 ∷ x5 ∷ x6 ∷ x7 ∷ x8 ∷ x9 ∷ x10 ∷ x11 ∷ x12 ∷ x13 ∷ x14 ∷ x15 ∷ xs) x15
atom_15 = record { place = 15; is = refl }

abbrev pub atom_16 : {A : Type 0} {none x0 x1 x2 x3 x4 x5 x6 x7 x8 x9 x10 x11 x12 x13 x14 x15 x16 : A} {xs : List A} →
    Atom none (x0 ∷ x1 ∷ x2 ∷ x3 ∷ x4 ∷ x5 ∷ x6 ∷ x7 ∷ x8 ∷ x9 ∷ x10 ∷ x11 ∷ x12 ∷ x13 ∷ x14 ∷ x15 ∷ x16 ∷ xs) x16
atom_16 = record { place = 16; is = refl }

abbrev pub atom_17 : {A : Type 0} {none x0 x1 x2 x3 x4 x5 x6 x7 x8 x9 x10 x11 x12 x13 x14 x15 x16 x17 : A} {xs : List A} →
    Atom none (x0 ∷ x1 ∷ x2 ∷ x3 ∷ x4 ∷ x5 ∷ x6 ∷ x7 ∷ x8 ∷ x9 ∷ x10 ∷ x11 ∷ x12 ∷ x13 ∷ x14 ∷ x15 ∷ x16 ∷ x17 ∷ xs) x17
atom_17 = record { place = 17; is = refl }

abbrev pub atom_18 : {A : Type 0} {none x0 x1 x2 x3 x4 x5 x6 x7 x8 x9 x10 x11 x12 x13 x14 x15 x16 x17 x18 : A} {xs : List A} →
    Atom none (x0 ∷ x1 ∷ x2 ∷ x3 ∷ x4 ∷ x5 ∷ x6 ∷ x7 ∷ x8 ∷ x9 ∷ x10 ∷ x11 ∷ x12 ∷ x13 ∷ x14 ∷ x15 ∷ x16 ∷ x17 ∷ x18 ∷ xs) x18
atom_18 = record { place = 18; is = refl }

abbrev pub atom_19 : {A : Type 0} {none x0 x1 x2 x3 x4 x5 x6 x7 x8 x9 x10 x11 x12 x13 x14 x15 x16 x17 x18 x19 : A} {xs : List A} →
    Atom none (x0 ∷ x1 ∷ x2 ∷ x3 ∷ x4 ∷ x5 ∷ x6 ∷ x7 ∷ x8 ∷ x9 ∷ x10 ∷ x11 ∷ x12 ∷ x13 ∷ x14 ∷ x15 ∷ x16 ∷ x17 ∷ x18 ∷ x19 ∷ xs) x19
atom_19 = record { place = 19; is = refl }

abbrev pub atom_20 : {A : Type 0} {none x0 x1 x2 x3 x4 x5 x6 x7 x8 x9 x10 x11 x12 x13 x14 x15 x16 x17 x18 x19 x20 : A} {xs : List A} →
    Atom none (x0 ∷ x1 ∷ x2 ∷ x3 ∷ x4 ∷ x5 ∷ x6 ∷ x7 ∷ x8 ∷ x9 ∷ x10 ∷ x11 ∷ x12 ∷ x13 ∷ x14 ∷ x15 ∷ x16 ∷ x17 ∷ x18 ∷ x19 ∷ x20 ∷ xs) x20
atom_20 = record { place = 20; is = refl }

abbrev pub atom_21 : {A : Type 0} {none x0 x1 x2 x3 x4 x5 x6 x7 x8 x9 x10 x11 x12 x13 x14 x15 x16 x17 x18 x19 x20 x21 : A} {xs : List A} →
    Atom none (x0 ∷ x1 ∷ x2 ∷ x3 ∷ x4 ∷ x5 ∷ x6 ∷ x7 ∷ x8 ∷ x9 ∷ x10 ∷ x11 ∷ x12 ∷ x13 ∷ x14 ∷ x15 ∷ x16 ∷ x17 ∷ x18 ∷ x19 ∷ x20 ∷ x21 ∷ xs) x21
atom_21 = record { place = 21; is = refl }

abbrev pub atom_22 : {A : Type 0} {none x0 x1 x2 x3 x4 x5 x6 x7 x8 x9 x10 x11 x12 x13 x14 x15 x16 x17 x18 x19 x20 x21 x22 : A} {xs : List A} →
    Atom none (x0 ∷ x1 ∷ x2 ∷ x3 ∷ x4 ∷ x5 ∷ x6 ∷ x7 ∷ x8 ∷ x9 ∷ x10 ∷ x11 ∷ x12 ∷ x13 ∷ x14 ∷ x15 ∷ x16 ∷ x17 ∷ x18 ∷ x19 ∷ x20 ∷ x21 ∷ x22 ∷ xs) x22
atom_22 = record { place = 22; is = refl }

abbrev pub atom_23 : {A : Type 0} {none x0 x1 x2 x3 x4 x5 x6 x7 x8 x9 x10 x11 x12 x13 x14 x15 x16 x17 x18 x19 x20 x21 x22 x23 : A} {xs : List A} →
    Atom none (x0 ∷ x1 ∷ x2 ∷ x3 ∷ x4 ∷ x5 ∷ x6 ∷ x7 ∷ x8 ∷ x9 ∷ x10 ∷ x11 ∷ x12 ∷ x13 ∷ x14 ∷ x15 ∷ x16 ∷ x17 ∷ x18 ∷ x19 ∷ x20 ∷ x21 ∷ x22 ∷ x23 ∷ xs) x23
atom_23 = record { place = 23; is = refl }

pub ruleset an_atom = (atom_0, atom_1, atom_2, atom_3, atom_4, atom_5, atom_6, atom_7, atom_8, atom_9, atom_10, atom_11, atom_12, atom_13, atom_14, atom_15, atom_16, atom_17, atom_18, atom_19, atom_20, atom_21, atom_22, atom_23)
