-- The lines that stand whole in what was written, and which of them are certified.
use Rattle.std.specs.Prelude.{◌≡◌, ◌≢◌, ◌⊎◌, ◌++◌, ℕ, List, [], codes, All}
use Rattle.std.specs.List.{Contains}
use Rattle.tb_case_records.specs.declared.case.CaseProof.{CaseProof}
use Rattle.tb_bundle.specs.declared.bundle.Bundle.{Bundle}
use Rattle.tb_checker.specs.Contents.{IsCertifiedCase}
use Rattle.tb_checker.specs.Texts.{accepted_line}

-- a text of whole lines: it is empty, or a line feed ends it
abbrev pub EndsLine : List ℕ → Type 0
EndsLine text = (text ≡ []) ⊎ ((front : List ℕ) × (text ≡ front ++ codes "\n"))

-- A line stands whole in a text: it begins the text or stands behind a line feed, and the next line feed ends it.
pub record IsWholeLine (text line : List ℕ) : Type 0 where
  pub before : List ℕ
  pub after : List ℕ
  pub stands : text ≡ before ++ (line ++ codes "\n" ++ after)
  pub begins : EndsLine before
  pub unbroken : All (λ byte. byte ≢ 10) line

-- A line tells the certified interval of a case of a bundle: that of the case's field and of its flux, which is balanced. It is
-- sound on every refinement of the body.
pub record IsCertifiedLine (b : Bundle) (line : List ℕ) : Type 0 where
  pub case : CaseProof
  pub there : Contains b.cases case
  pub told : line ++ codes "\n" ≡ accepted_line b.detail case
  pub certified : IsCertifiedCase b.detail case

-- each line that stands whole in a text tells the certified interval of a case, or ends the list
abbrev pub HasCertifiedLines : Bundle → List ℕ → Type 0
HasCertifiedLines b text = (line : List ℕ) → IsWholeLine text line → IsCertifiedLine b line ⊎ (line ≡ codes "end")
