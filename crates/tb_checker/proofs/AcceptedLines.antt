-- The lines that stand whole in a front of the list of certified intervals.
use Rattle.std.proofs.Common.{◌≡◌, ◌≢◌, ◌∙◌, refl, sym, ap, subst, ◌⊎◌, inl, inr, ℕ, zero, suc, ◌%◌, ◌<◌, ◌^◌, ◌==◌, ◌&&◌, Bool, true, false, List, [], ◌∷◌, ◌++◌, length, map, take, arith, All, if◌then◌else◌, ℤ, pos, negsuc}
use Rattle.std.specs.Prelude.{codes, decimal, not, slice_index_or}
use Rattle.std.specs.Int.{is_negative}
use Rattle.std.specs.List.{Contains, flat_map, list_all}
use Rattle.std.proofs.Math.Nat.{div-one}
use Rattle.std.proofs.lemmas.Fmt.{decimal_is_IsNumeral_wide}
use Rattle.std.proofs.lemmas.Int.{ints}
use Rattle.std.proofs.lemmas.List.{append-nil, append_assoc}
use Rattle.std.proofs.lemmas.List.Elements.{All-append, All-cons, All-from_get_or, All-head, All-nil, All-tail}
use Rattle.std.proofs.lemmas.Str.Parse.{digit_at}
use Rattle.tb_detail.specs.declared.Detail.{Detail}
use Rattle.tb_detail.specs.declared.Environment.{Environment}
use Rattle.tb_detail.specs.Limits.{InLimits}
use Rattle.tb_detail.specs.Names.{is_name, is_name_byte}
use Rattle.tb_model.specs.Values.{case_of}
use Rattle.tb_numbers.specs.Texts.{fixed_text}
use Rattle.tb_case_records.specs.Cases.{CaseForm}
use Rattle.tb_case_records.specs.Limits.{IsEnd}
use Rattle.tb_case_records.specs.declared.case.CaseProof.{CaseProof}
use Rattle.tb_bundle.specs.Bodies.{case_forms}
use Rattle.tb_bundle.specs.Limits.{CasesInLimits}
use Rattle.tb_bundle.specs.declared.bundle.Bundle.{Bundle}
use Rattle.tb_checker.specs.Contents.{AreCertified, IsCertifiedCase}
use Rattle.tb_checker.specs.Lines.{HasCertifiedLines, IsCertifiedLine}
use Rattle.tb_checker.specs.Texts.{accepted_line, accepted_text, ends_text, name_in_set, name_of, names_up_to, set_name}
use Rattle.tb_checker.proofs.Lines.{Unbroken, whole_lines}

abbrev IsByte : ℕ → Type 0
IsByte byte = byte ≢ 10

none_broken : Unbroken []
none_broken = All-nil IsByte

both_unbroken : (xs ys : List ℕ) → Unbroken xs → Unbroken ys → Unbroken (xs ++ ys)
both_unbroken xs ys h k = All-append IsByte xs ys h k

one_byte : (c : ℕ) → c ≢ 10 → Unbroken (c ∷ [])
one_byte c h = All-cons IsByte c [] h none_broken

split : (a b : Bool) → (a && b) ≡ true → (a ≡ true) × (b ≡ true)
split true b h = (refl, h)
split false b h = cc h

-- a text by a test of its bytes, which computes
tested : (text : List ℕ) → list_all (λ byte. not (byte == 10)) text ≡ true → Unbroken text
tested [] h = none_broken
tested (c ∷ text) h = let b = split _ _ h in All-cons IsByte c text (no_feed c b.0) (tested text b.1)
  where
    no_feed : (c : ℕ) → not (c == 10) ≡ true → c ≢ 10
    no_feed c h e = cc (rw e at h)

-- ---- names

name_byte : (c : ℕ) → is_name_byte c ≡ true → c ≢ 10
unfolding is_name_byte
name_byte c h e = cc (rw e at h)

name_bytes : (text : List ℕ) → list_all is_name_byte text ≡ true → Unbroken text
name_bytes [] h = none_broken
name_bytes (c ∷ text) h = let b = split _ _ h in All-cons IsByte c text (name_byte c b.0) (name_bytes text b.1)

name_unbroken : (es : List Environment) → All (λ (e : Environment). is_name e.name ≡ true) es → (e : ℕ) → Unbroken (slice_index_or es e (record { name = [] })).name
name_unbroken [] h e = none_broken
name_unbroken (x ∷ es) h zero = name_bytes x.name (split _ _ (All-head (λ (e : Environment). is_name e.name ≡ true) x es h)).1
name_unbroken (x ∷ es) h (suc e) = name_unbroken es (All-tail (λ (e : Environment). is_name e.name ≡ true) x es h) e

set_unbroken : (d : Detail) → InLimits d → (set e : ℕ) → Unbroken (names_up_to d set e)
set_unbroken d h set zero = none_broken
set_unbroken d h set (suc e) = both_unbroken (names_up_to d set e) (name_in_set d set e) (set_unbroken d h set e) (by (case_of set e) (set % 2 ^ e == 0))
  where
    name : Unbroken (name_of d e)
    name = name_unbroken d.environments h.named.environments.formed e

    by : (in_set first : Bool) → Unbroken (if in_set then (if first then [] else codes "+") ++ name_of d e else [])
    by true true = name
    by true false = both_unbroken (codes "+") (name_of d e) (one_byte 43 (λ e. cc e)) name
    by false first = none_broken

-- ---- ends

digits_unbroken : (n : ℕ) → n < 10 ^ 38 → Unbroken (decimal n)
digits_unbroken n h = All-from_get_or IsByte (decimal n) 0 (λ i below is.
    let digit = digit_at (decimal n) i (decimal_is_IsNumeral_wide n (omega arith)).0.1 below in omega arith)

minus_text : (n : ℕ) → 45 ∷ decimal (suc n) ≡ fixed_text 0 (negsuc n)
unfolding fixed_text
minus_text n = rw (div-one (suc n), append-nil (decimal (suc n))) refl

plus_text : (n : ℕ) → decimal n ≡ fixed_text 0 (pos n)
unfolding fixed_text
plus_text n = let plain : is_negative (pos n) ≡ false = grind (arith, ints) in rw (plain, div-one n, append-nil (decimal n)) refl

end_unbroken : (z : ℤ) → IsEnd z → Unbroken (fixed_text 0 z)
end_unbroken (pos n) h = subst Unbroken (plus_text n) (digits_unbroken n h)
end_unbroken (negsuc n) h = subst Unbroken (minus_text n) (All-cons IsByte 45 (decimal (suc n)) (λ e. cc e) (digits_unbroken (suc n) h))

-- ---- the line of a case, without its line feed

abbrev body : Detail → CaseProof → List ℕ
body d c = codes "accepted," ++ set_name d c.case.mask ++ (codes "," ++ ends_text (codes ",") c.interval)

with_feed : (d : Detail) (c : CaseProof) → body d c ++ codes "\n" ≡ accepted_line d c
with_feed d c = append_assoc (codes "accepted," ++ set_name d c.case.mask) (codes "," ++ ends_text (codes ",") c.interval) (codes "\n")

word_unbroken : Unbroken (codes "accepted,")
word_unbroken = tested (codes "accepted,") refl

record HasEndsInLimits (c : CaseProof) : Type 0 where
  low : IsEnd c.interval.lo
  high : IsEnd c.interval.hi

ends_in_limits : (fs : List CaseForm) (cs : List CaseProof) → CasesInLimits fs cs → All HasEndsInLimits cs
ends_in_limits [] [] h = All-nil HasEndsInLimits
ends_in_limits [] (c ∷ cs) h = absurd h
ends_in_limits (f ∷ fs) [] h = absurd h
ends_in_limits (f ∷ fs) (c ∷ cs) h = All-cons HasEndsInLimits c cs (record { low = h.0.low_end; high = h.0.high_end }) (ends_in_limits fs cs h.1)

body_unbroken : (d : Detail) (c : CaseProof) → InLimits d → HasEndsInLimits c → Unbroken (body d c)
body_unbroken d c h ends =
    both_unbroken (codes "accepted," ++ set_name d c.case.mask) (codes "," ++ ends_text (codes ",") c.interval)
    (both_unbroken (codes "accepted,") (set_name d c.case.mask) word_unbroken (set_unbroken d h c.case.mask (length d.environments)))
    (both_unbroken (codes ",") (ends_text (codes ",") c.interval) comma
    (both_unbroken (fixed_text 0 c.interval.lo ++ codes ",") (fixed_text 0 c.interval.hi) (both_unbroken (fixed_text 0 c.interval.lo) (codes ",") (end_unbroken c.interval.lo ends.low) comma) (end_unbroken c.interval.hi ends.high)))
  where
    comma : Unbroken (codes ",")
    comma = one_byte 44 (λ e. cc e)

-- ---- the list

all_of : (P : List ℕ → Type 0) (f : CaseProof → List ℕ) (cs : List CaseProof) → ((c : CaseProof) → Contains cs c → P (f c)) → All P (map f cs)
all_of P f [] h = All-nil P
all_of P f (c ∷ cs) h = All-cons P (f c) (map f cs) (h c (0, omega arith, refl)) (all_of P f cs (λ x there. h x (later x there)))
  where
    later : (x : CaseProof) → Contains cs x → Contains (c ∷ cs) x
    later x (k, below, is) = (suc k, omega arith, is)

as_lines : (d : Detail) (cs : List CaseProof) → flat_map (accepted_line d) cs ++ codes "end\n" ≡ flat_map (λ text. text ++ codes "\n") (map (body d) cs ++ (codes "end" ∷ []))
as_lines d [] = refl
as_lines d (c ∷ cs) =
    append_assoc (accepted_line d c) (flat_map (accepted_line d) cs) (codes "end\n")
    ∙ ap (λ t. accepted_line d c ++ t) (as_lines d cs)
    ∙ ap (λ t. t ++ flat_map (λ text. text ++ codes "\n") (map (body d) cs ++ (codes "end" ∷ []))) (sym (with_feed d c))

pub certified_lines : (b : Bundle) (n : ℕ) → AreCertified b → HasCertifiedLines b (take n (accepted_text b))
certified_lines b n h line whole =
    whole_lines Told (map (body b.detail) b.cases ++ (codes "end" ∷ [])) n
    (All-append Kept (map (body b.detail) b.cases) (codes "end" ∷ []) (all_of Kept (body b.detail) b.cases each) (All-cons Kept (codes "end") [] (inr refl, tested (codes "end") refl) (All-nil Kept)))
    line (rw (as_lines b.detail b.cases) at whole)
  where
    Told : List ℕ → Type 0
    Told line = IsCertifiedLine b line ⊎ (line ≡ codes "end")

    Kept : List ℕ → Type 0
    Kept line = Told line × Unbroken line

    at_place : (P : CaseProof → Type 0) → All P b.cases → (c : CaseProof) → Contains b.cases c → P c
    at_place P all c (k, below, is) = subst P is (all k c below)

    each : (c : CaseProof) → Contains b.cases c → Kept (body b.detail c)
    each c there = (
      inl (record { case = c; there = there; told = with_feed b.detail c; certified = at_place (IsCertifiedCase b.detail) h.cases c there }),
      body_unbroken b.detail c h.limits.detail (at_place HasEndsInLimits (ends_in_limits (case_forms b.detail) b.cases h.limits.cases) c there),
    )
