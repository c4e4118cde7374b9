-- Names and numbers are plain.
use Rattle.std.proofs.Common.{◌≡◌, ◌∙◌, ap, refl, sym, ℕ, ◌≤◌, ◌==◌, ◌&&◌, inl, inr, Bool, true, false, not, List, [], ◌∷◌, All, ℤ, unsigned_abs, arith, true≢false}
use Rattle.std.proofs.lemmas.Bool.{ne_eqb}
use Rattle.std.proofs.lemmas.List.Elements.{All-head, All-tail}
use Rattle.std.specs.List.{list_all}
use Rattle.tb_records.specs.Plain.{is_plain, is_special}
use Rattle.tb_numbers.specs.Texts.{IsDecimalByte, IsSignedDecimalByte}
use Rattle.tb_numbers.proofs.ShortTexts.{decimal_plain, signed_plain}
use Rattle.tb_detail.specs.Names.{Text, is_name, is_name_byte}
use Rattle.tb_detail.specs.Quantities.{IsInRange}
use Rattle.tb_detail.specs.declared.quantity.Quantity.{Quantity}
use Rattle.tb_reading.specs.Kinds.{places}
use Rattle.tb_canonical.specs.Canonical.{number, psi_number}
use Rattle.tb_canonical.proofs.FieldReading.{most_small}

-- a byte that is none of the four
not_special : (c : ℕ) → (c == 44) ≡ false → (c == 34) ≡ false → (c == 13) ≡ false → (c == 10) ≡ false → not (is_special c) ≡ true
not_special c h k l m = rw (h, k, l, m) refl

pub each_plain : {P : ℕ → Type 0} → ((c : ℕ) → P c → not (is_special c) ≡ true) → (text : List ℕ) → All P text → is_plain text ≡ true
each_plain h [] a = refl
each_plain {P} h (c ∷ text) a = rw (h c (All-head P c text a), each_plain h text (All-tail P c text a)) refl

pub decimal_byte : (c : ℕ) → IsDecimalByte c → not (is_special c) ≡ true
decimal_byte c (inl r) = not_special c (ne_eqb c 44 (λ e. omega arith)) (ne_eqb c 34 (λ e. omega arith)) (ne_eqb c 13 (λ e. omega arith)) (ne_eqb c 10 (λ e. omega arith))
decimal_byte c (inr e) = rw e refl

pub signed_byte : (c : ℕ) → IsSignedDecimalByte c → not (is_special c) ≡ true
signed_byte c (inl d) = decimal_byte c d
signed_byte c (inr e) = rw e refl

pub number_plain : (q : Quantity) (n : ℕ) → IsInRange q n → is_plain (number q n) ≡ true
number_plain q n r =
    each_plain decimal_byte (number q n) (decimal_plain (places q) n (let m = most_small q in let h = r.high in omega arith))

pub psi_plain : (z : ℤ) → unsigned_abs z ≤ 1000000000 → is_plain (psi_number z) ≡ true
psi_plain z h = each_plain signed_byte (psi_number z) (signed_plain 6 z (omega arith))

other_byte : (c m : ℕ) → is_name_byte m ≡ false → is_name_byte c ≡ true → (c == m) ≡ false
other_byte c m h k = ne_eqb c m (λ e. true≢false (sym k ∙ ap is_name_byte e ∙ h))

name_byte : (c : ℕ) → is_name_byte c ≡ true → not (is_special c) ≡ true
unfolding is_name_byte
name_byte c h = not_special c (other_byte c 44 refl h) (other_byte c 34 refl h) (other_byte c 13 refl h) (other_byte c 10 refl h)

both : (a b : Bool) → (a && b) ≡ true → (a ≡ true) × (b ≡ true)
both true b h = (refl, h)
both false b h = cc h

name_bytes : (text : Text) → list_all is_name_byte text ≡ true → is_plain text ≡ true
name_bytes [] h = refl
name_bytes (c ∷ text) h = let b = both _ _ h in rw (name_byte c b.0, name_bytes text b.1) refl

pub name_plain : (text : Text) → is_name text ≡ true → is_plain text ≡ true
name_plain text h = name_bytes text (both _ _ h).1
