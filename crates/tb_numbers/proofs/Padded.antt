-- Zeros before the digits of a number.
use Rattle.std.proofs.Common.{◌≡◌, ◌≤◌, ℕ, take}
use Rattle.std.proofs.lemmas.List.{take-replicate}
use Rattle.std.specs.Prelude.{replicate}

pub zeros_front : (k : ℕ) → k ≤ 18 → take {A = ℕ} k (replicate 18 48) ≡ replicate k 48
zeros_front k h = take-replicate k 18 48 h
