-- A whole case from its parts: the axes, the values and the last two records.
use Rattle.std.proofs.Common.{◌≡◌, ◌∙◌, ap, refl, sym, subst, ℕ, ℤ, ◌+◌, List, [], ◌∷◌, ◌++◌, length, drop, append_assoc, length-append}
use Rattle.std.proofs.lemmas.List.{drop-drop}
use Rattle.tb_grid.specs.Axis.{interval_count}
use Rattle.tb_grid.specs.Grid.{Axes}
use Rattle.tb_terms.specs.declared.Interval.{Interval}
use Rattle.tb_reading.specs.Reading.{Numbered}
use Rattle.tb_reading.specs.Records.{text_at}
use Rattle.tb_case_records.specs.declared.case.CaseProof.{CaseProof}
use Rattle.tb_case_records.specs.declared.ends.Verdict.{Verdict}
use Rattle.tb_case_records.specs.declared.fault.BundleRefusal.{BundleRefusal}
use Rattle.tb_case_records.specs.Ahead.{Ahead, row_numbers}
use Rattle.tb_case_records.specs.Cases.{AreValues, CaseForm, EndsAs, axes_in, behind_axes, behind_faces, behind_nodes, case_faces, case_nodes, case_of, case_table, cells_in, head_table, interval_in, row_at, verdict_in, width_in}
use Rattle.tb_case_records.specs.Rows.{face_reading, node_reading}
use Rattle.tb_case_records.specs.Table.{Ends, Expected, IsPast, Judged, Stops, face_rows, node_rows, width_reading}
use Rattle.tb_case_records.proofs.Taking.{past_then, stops_short, stops_then}

pub axes_stop : (f : CaseForm) (old : Ahead) (e : BundleRefusal) → Stops (head_table f old.ahead) old e → Stops (case_table f old.ahead) old e
unfolding case_table
axes_stop f old e t = stops_short (head_table f old.ahead) (case_nodes old.ahead ++ (case_faces old.ahead ++ (Ends ∷ Judged ∷ []))) old e t

module _ (f : CaseForm) (old mid : Ahead) (p : IsPast (head_table f old.ahead) old mid) where
  values_stop : (e : BundleRefusal) → Stops (case_nodes old.ahead ++ case_faces old.ahead) mid e → Stops (case_table f old.ahead) old e
  unfolding case_table
  values_stop e t =
      stops_then (head_table f old.ahead) (case_nodes old.ahead ++ (case_faces old.ahead ++ (Ends ∷ Judged ∷ []))) old mid e p
      (subst (λ (es : List Expected). Stops es mid e) (append_assoc (case_nodes old.ahead) (case_faces old.ahead) (Ends ∷ Judged ∷ []))
      (stops_short (case_nodes old.ahead ++ case_faces old.ahead) (Ends ∷ Judged ∷ []) mid e t))

  end_stop : (more : Ahead) (e : BundleRefusal) → IsPast (case_nodes old.ahead ++ case_faces old.ahead) mid more → Stops (Ends ∷ Judged ∷ []) more e → Stops (case_table f old.ahead) old e
  unfolding case_table
  end_stop more e q t =
      stops_then (head_table f old.ahead) (case_nodes old.ahead ++ (case_faces old.ahead ++ (Ends ∷ Judged ∷ []))) old mid e p
      (subst (λ (es : List Expected). Stops es mid e) (append_assoc (case_nodes old.ahead) (case_faces old.ahead) (Ends ∷ Judged ∷ []))
      (stops_then (case_nodes old.ahead ++ case_faces old.ahead) (Ends ∷ Judged ∷ []) mid more e q t))

  whole_past : (more new : Ahead) → IsPast (case_nodes old.ahead ++ case_faces old.ahead) mid more → IsPast (Ends ∷ Judged ∷ []) more new → IsPast (case_table f old.ahead) old new
  unfolding case_table
  whole_past more new q r =
      past_then (head_table f old.ahead) (case_nodes old.ahead ++ (case_faces old.ahead ++ (Ends ∷ Judged ∷ []))) old mid new p
      (subst (λ (es : List Expected). IsPast es mid new) (append_assoc (case_nodes old.ahead) (case_faces old.ahead) (Ends ∷ Judged ∷ []))
      (past_then (case_nodes old.ahead ++ case_faces old.ahead) (Ends ∷ Judged ∷ []) mid more new q r))

-- the rows by the counts of the program
module _ (f : CaseForm) (old mid : Ahead) (p : IsPast (head_table f old.ahead) old mid) (g : Axes) (a : g ≡ axes_in old.ahead)
    (i j k : ℕ) (ei : i ≡ interval_count g.x) (ej : j ≡ interval_count g.y) (ek : k ≡ interval_count g.z) where
  counted : {X : Type 0} (rows : ℕ → ℕ → ℕ → X) → rows i j k ≡ rows (cells_in old.ahead 1) (cells_in old.ahead 2) (cells_in old.ahead 3)
  counted {X} rows = rw (ei, ej, ek) (ap (λ (h : Axes). rows (interval_count h.x) (interval_count h.y) (interval_count h.z)) a)

  both_are : node_rows i j k ++ face_rows i j k ≡ case_nodes old.ahead ++ case_faces old.ahead
  both_are = counted (λ x y z. node_rows x y z ++ face_rows x y z)

  pub values_stop_at : (e : BundleRefusal) → Stops (node_rows i j k ++ face_rows i j k) mid e → Stops (case_table f old.ahead) old e
  values_stop_at e t = values_stop f old mid p e (subst (λ (es : List Expected). Stops es mid e) both_are t)

  module _ (more : Ahead) (q : IsPast (node_rows i j k ++ face_rows i j k) mid more) where
    pub end_stop_at : (e : BundleRefusal) → Stops (Ends ∷ Judged ∷ []) more e → Stops (case_table f old.ahead) old e
    end_stop_at e t = end_stop f old mid p more e (subst (λ (es : List Expected). IsPast es mid more) both_are q) t

    pub whole_past_at : (new : Ahead) → IsPast (Ends ∷ Judged ∷ []) more new → IsPast (case_table f old.ahead) old new
    whole_past_at new r = whole_past f old mid p more new (subst (λ (es : List Expected). IsPast es mid more) both_are q) r

    -- what stands ahead behind the values
    behind : more.ahead ≡ behind_faces old.ahead
    behind =
        q.rest
        ∙ ap (λ (es : List Expected). drop (length es) mid.ahead) both_are
        ∙ ap (λ (n : ℕ). drop n mid.ahead) (length-append (case_nodes old.ahead) (case_faces old.ahead))
        ∙ sym (drop-drop (length (case_faces old.ahead)) (length (case_nodes old.ahead)) mid.ahead)
        ∙ ap (λ (given : List Numbered). drop (length (case_faces old.ahead)) (drop (length (case_nodes old.ahead)) given)) p.rest

    pub case_is : (field flux : List ℤ) (interval : Interval) (v : Verdict) (width : ℕ) → AreValues i j k field flux mid.ahead → EndsAs interval v width more.ahead
        → (let c : CaseProof = record { case = f.case; grid = g; field = field; flux = flux; interval = interval; verdict = v; width = width } in c) ≡ case_of f old.ahead
    unfolding case_of
    case_is field flux interval v width values ends = rw (a, nodes, faces, interval_is, verdict_is, width_is) refl
      where
        nodes : field ≡ row_numbers node_reading (length (case_nodes old.ahead)) (behind_axes old.ahead)
        nodes = values.nodes ∙ ap (λ (es : List Expected). row_numbers node_reading (length es) mid.ahead) (counted node_rows)
            ∙ ap (row_numbers node_reading (length (case_nodes old.ahead))) p.rest

        faces : flux ≡ row_numbers face_reading (length (case_faces old.ahead)) (behind_nodes old.ahead)
        faces = values.faces ∙ ap (λ (es : List Expected). row_numbers face_reading (length es) (drop (length (node_rows i j k)) mid.ahead)) (counted face_rows)
            ∙ ap (λ (es : List Expected). row_numbers face_reading (length (case_faces old.ahead)) (drop (length es) mid.ahead)) (counted node_rows)
            ∙ ap (λ (given : List Numbered). row_numbers face_reading (length (case_faces old.ahead)) (drop (length (case_nodes old.ahead)) given)) p.rest

        interval_is : interval ≡ interval_in (row_at (behind_faces old.ahead) 0)
        interval_is = ends.interval_is ∙ ap (λ (given : List Numbered). interval_in (row_at given 0)) behind

        verdict_is : v ≡ verdict_in (text_at (row_at (behind_faces old.ahead) 1) 1)
        verdict_is = ends.verdict_is ∙ ap (λ (given : List Numbered). verdict_in (text_at (row_at given 1) 1)) behind

        width_is : width ≡ width_in (width_reading (text_at (row_at (behind_faces old.ahead) 1) 2))
        width_is = ends.width_is ∙ ap (λ (given : List Numbered). width_in (width_reading (text_at (row_at given 1) 2))) behind
