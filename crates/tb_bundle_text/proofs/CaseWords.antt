-- The first record of a case, put name by name.
use Rattle.std.proofs.Common.{◌≡◌, ◌≢◌, ◌∙◌, ap, refl, sym, ℕ, ◌+◌, ◌/◌, ◌%◌, ◌<◌, ◌≤◌, subst, Bool, List, [], ◌∷◌, ◌++◌, length, drop, get_or, Option, append_assoc, append-nil, codes, if◌then◌else◌}
use Rattle.std.proofs.lemmas.Bool.{eq-eqb, ne_eqb}
use Rattle.std.proofs.lemmas.List.{drop_all, drop_more, map-id}
use Rattle.std.specs.List.{flat_map}
use Rattle.tb_detail.specs.declared.Environment.{Environment}
use Rattle.tb_detail.specs.Names.{Text}
use Rattle.tb_outside.proofs.Gathered.{gathers_both, gathers_same}
use Rattle.tb_outside.specs.Buffers.{Gathers}
use Rattle.tb_bundle.specs.Bodies.{names_of_set}
use Rattle.tb_bundle_text.specs.Canonical.{case_row}
use Rattle.tb_bundle_text.proofs.Joined.{behind_comma, fields_joined}
use Rattle.tb_records.specs.Plain.{record_text}

abbrev pub names_text : List Text → List ℕ
names_text names = flat_map (behind_comma (λ name. name)) names

-- what puts the word and the names of the environments before these
pub record PutsNames {K : Type 0} (h : K → Option (List ℕ)) (f : K → ℕ) (a b : K) (u v : Option (List ℕ)) (all : List Environment) (mask : ℕ) (rest : List Environment) (left : ℕ) : Type 0 where
  pub text : List ℕ
  pub put : Gathers h f a b u text v
  pub whole : text ++ names_text (names_of_set left rest) ≡ codes "case" ++ names_text (names_of_set mask all)

module _ {K : Type 0} {h : K → Option (List ℕ)} {f : K → ℕ} {a b : K} {u v : Option (List ℕ)} (all : List Environment) (mask : ℕ) (e : Environment) (rest : List Environment) (left : ℕ)
    (p : PutsNames h f a b u v all mask (e ∷ rest) left) where
  -- the next one is in the set
  pub puts_name : {c : K} {w : Option (List ℕ)} → left % 2 ≡ 1 → Gathers h f b c v (44 ∷ e.name) w → PutsNames h f a c u w all mask rest (left / 2)
  puts_name is put = record {
    text = p.text ++ (44 ∷ e.name);
    put = gathers_both p.put put;
    whole = append_assoc p.text (44 ∷ e.name) (names_text (names_of_set (left / 2) rest))
        ∙ ap (λ (b : Bool). p.text ++ names_text (if b then e.name ∷ names_of_set (left / 2) rest else names_of_set (left / 2) rest)) (sym (eq-eqb (left % 2) 1 is)) ∙ p.whole;
  }

  -- the next one isn't
  pub puts_no_name : left % 2 ≢ 1 → PutsNames h f a b u v all mask rest (left / 2)
  puts_no_name isnt = record {
    text = p.text;
    put = p.put;
    whole = ap (λ (b : Bool). p.text ++ names_text (if b then e.name ∷ names_of_set (left / 2) rest else names_of_set (left / 2) rest)) (sym (ne_eqb (left % 2) 1 isnt)) ∙ p.whole;
  }

-- the environments from one on, and those behind it
pub names_at : {K : Type 0} {h : K → Option (List ℕ)} {f : K → ℕ} {a b : K} {u v : Option (List ℕ)} (all : List Environment) (mask i left : ℕ) (e : Environment) → e ≡ get_or all i e → i < length all
    → PutsNames h f a b u v all mask (drop i all) left → PutsNames h f a b u v all mask (e ∷ drop (i + 1) all) left
names_at {h = h} {f = f} {a = a} {b = b} {u = u} {v = v} all mask i left e is below p =
    subst (λ (rest : List Environment). PutsNames h f a b u v all mask rest left) (drop_more all i e below ∙ ap (λ (x : Environment). x ∷ drop (i + 1) all) (sym is)) p

pub no_names : {K : Type 0} {h : K → Option (List ℕ)} {f : K → ℕ} {a b : K} {u v : Option (List ℕ)} (all : List Environment) (mask : ℕ) → Gathers h f a b u (codes "case") v → PutsNames h f a b u v all mask all mask
no_names all mask put = record { text = codes "case"; put = put; whole = refl }

-- the whole record, with the line feed behind the names
pub all_names : {K : Type 0} {h : K → Option (List ℕ)} {f : K → ℕ} {a b c : K} {u v w : Option (List ℕ)} (all : List Environment) (mask i left : ℕ) → length all ≤ i
    → PutsNames h f a b u v all mask (drop i all) left → Gathers h f b c v (10 ∷ []) w → Gathers h f a c u (record_text (case_row all mask)) w
all_names all mask i left end p put =
    gathers_same
    (ap (λ (t : List ℕ). t ++ (10 ∷ [])) (sym (append-nil p.text) ∙ ap (λ (rest : List Environment). p.text ++ names_text (names_of_set left rest)) (sym (drop_all i all end)) ∙ p.whole)
    ∙ fields_joined (λ name. name) (codes "case") (names_of_set mask all) ∙ ap (λ (names : List Text). record_text (codes "case" ∷ names)) (map-id (names_of_set mask all)))
    (gathers_both p.put put)
