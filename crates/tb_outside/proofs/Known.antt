-- Bytes that are told, taken and added one piece after the other.
use Rattle.std.proofs.Common.{◌≡◌, ap, refl, sym, ◌+◌, ◌-◌, ◌<◌, ◌≤◌, ℕ, min, List, [], ◌++◌, length, take, drop, Option, Some, None, arith, append_assoc}
use Rattle.std.proofs.lemmas.List.{append-nil, drop-drop, length-append, length-drop, nil_from_length, take-append-drop, take-append-le, take_all}
use Rattle.std.proofs.Math.Seq.{take-add, take-append-add}
use Rattle.tb_outside.specs.Outside.{Adds, IsAtEnd, Takes, TakesAtMost, WritesFront}

pub takes_none : (a : Option (List ℕ)) → Takes a a []
takes_none None = refl
takes_none (Some xs) = refl

pub takes_more : (a b c : Option (List ℕ)) (xs ys : List ℕ) → Takes a b xs → Takes b c ys → Takes a c (xs ++ ys)
takes_more a b None xs ys h k = rw (h, k) refl
takes_more a b (Some c) xs ys h k = rw (h, k, append_assoc) refl

-- what was taken before, and then at most some more
pub takes_at_most : (a b c : Option (List ℕ)) (xs : List ℕ) (m n : ℕ) → Takes a b xs → TakesAtMost b c m → length xs + m ≤ n → TakesAtMost a c n
takes_at_most a b c xs m n h k fits = (xs ++ k.0, omega (arith, k.1, length-append xs k.0), takes_more a b c xs k.0 h k.2)

pub adds_none : (a : Option (List ℕ)) → Adds a a []
adds_none None = refl
adds_none (Some xs) = rw append-nil refl

pub adds_more : (a b c : Option (List ℕ)) (xs ys : List ℕ) → Adds a b xs → Adds b c ys → Adds a c (xs ++ ys)
adds_more None b c xs ys h k = rw (k, h) refl
adds_more (Some a) b c xs ys h k = rw (k, h, append_assoc) refl

-- a front of a text behind one that was written whole
pub front_behind : (a b c : Option (List ℕ)) (s t : List ℕ) → Adds a b s → WritesFront b c t → WritesFront a c (s ++ t)
front_behind a b c s t h k = (length s + k.0, omega (arith, k.1, length-append s t), rw take-append-add (adds_more a b c s _ h k.2))

-- a front of a text is a front of one that goes on
pub front_more : (a b : Option (List ℕ)) (s t : List ℕ) → WritesFront a b s → WritesFront a b (s ++ t)
front_more a b s t f = (f.0, omega (arith, f.1, length-append s t), rw (take-append-le f.0 s t f.1) f.2)

-- the slice from a place to the end, as goals show it
pub all_left : (s : List ℕ) (i : ℕ) → take (length s - i) (drop i s) ≡ drop i s
all_left s i = take_all _ _ (omega (arith, length-drop i s))

-- a put of what is left of a piece
pub adds_rest : (a b c : Option (List ℕ)) (s : List ℕ) (i n : ℕ) → Adds a b (take i s) → Adds b c (take n (take (length s - i) (drop i s))) → Adds a c (take (i + n) s)
adds_rest a b c s i n h k = rw take-add (adds_more a b c _ _ h (rw all_left at k))

-- where nothing was left, nothing is left
pub at_end_same : (a b : Option (List ℕ)) (xs : List ℕ) → Takes a b xs → IsAtEnd a → IsAtEnd b
at_end_same a None xs h e = tt
at_end_same None (Some b) xs h e = cc h
at_end_same (Some a) (Some b) xs h e =
    let whole : a ≡ xs ++ b = cc in
    nil_from_length b (omega (arith, length-append xs b, ap length whole, ap length e))

-- a read that copied the front of what was left, from a place on in some bytes
pub read_front : (bytes kept d buf : List ℕ) (at n : ℕ) → drop at bytes ≡ kept → d ≡ bytes → take n buf ≡ take n (take (length d - at) (drop at d))
    → n ≡ min (length (take (length d - at) (drop at d))) (length buf)
    → (n ≤ length buf) × (Some kept ≡ Some (take n buf ++ drop (at + n) bytes)) × (n ≡ 0 → 0 < length buf → kept ≡ [])
read_front bytes kept d buf at n view same front count =
    let left : take (length d - at) (drop at d) ≡ kept = rw (all_left, same) view in
    let few : n ≡ min (length kept) (length buf) = rw left at count in
    let taken : take n buf ≡ take n kept = rw left at front in
    let rest : take n buf ++ drop (at + n) bytes ≡ kept = rw (taken, ← drop-drop, view, take-append-drop) refl in
    (omega arith, ap Some (sym rest), λ none room. nil_from_length kept (omega arith))
