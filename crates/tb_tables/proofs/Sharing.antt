-- One thing more with a row.
use Rattle.std.proofs.Common.{◌≡◌, refl, sym, ap, ◌∙◌, subst, ◌<◌, ◌+◌, ⊎_elim, ℕ, List, [], ◌∷◌, ◌++◌, length, get_or, arith}
use Rattle.std.proofs.lemmas.List.{get_or_append_left, length-append}
use Rattle.std.proofs.Math.Seq.{get_or-append_seam}
use Rattle.std.proofs.Math.Nat.{eq-or-lt_of_le}
use Rattle.tb_tables.specs.Sharing.{AreRows, AreSorted, IsPlaced}

module _ (A : Type 0) (IsRow : ℕ → A → Type 0) where
  pub none_yet : (rows : List A) (numbers : List ℕ) → rows ≡ [] → numbers ≡ [] → AreRows A IsRow 0 rows numbers
  none_yet rows numbers e f = record {
    counted = ap length f;
    few = let l = ap length e in omega (arith, l);
    within = λ i d h. let l = ap length f in omega (arith, l, h);
    each = λ c none h. absurd (omega (arith, h));
  }

  module _ (Is : A → Type 0) (c : ℕ) (rows new : List A) (numbers : List ℕ) (r : ℕ) (so_far : AreRows A IsRow c rows numbers) (placed : IsPlaced A Is rows new r) where
    abbrev longer : List ℕ
    longer = numbers ++ r ∷ []

    one_longer : length longer ≡ c + 1
    one_longer = length-append numbers (r ∷ []) ∙ ap (λ n. n + 1) so_far.counted

    last_number : get_or longer c 0 ≡ r
    last_number = ap (λ n. get_or longer n 0) (sym so_far.counted) ∙ get_or-append_seam numbers r [] 0

    earlier : (i d : ℕ) → i < c → get_or longer i d ≡ get_or numbers i d
    earlier i d h = get_or_append_left numbers (r ∷ []) d i (omega (arith, so_far.counted, h))

    number_within : (i : ℕ) → i < c → get_or numbers i 0 < length rows
    number_within i h = so_far.within i 0 (omega (arith, so_far.counted, h))

    all_within : (i d : ℕ) → i < length longer → get_or longer i d < length new
    all_within i d h = ⊎_elim
        (λ (last : i ≡ c). subst (λ (n : ℕ). n < length new) (sym (ap (λ n. get_or longer n d) (last ∙ sym so_far.counted) ∙ get_or-append_seam numbers r [] d)) placed.within)
        (λ (early : i < c). let e = earlier i d early in let w = so_far.within i d (omega (arith, so_far.counted, early)) in omega (arith, e, w, placed.from))
        (eq-or-lt_of_le (omega (arith, h, one_longer)))

    pub one_more : ((w : A) → Is w → IsRow c w) → AreRows A IsRow (c + 1) new longer
    one_more is = record {
      counted = one_longer;
      few = omega (arith, so_far.few, placed.upto);
      within = all_within;
      each = λ i none h. ⊎_elim
          (λ (last : i ≡ c). subst (λ (n : ℕ). IsRow n (get_or new (get_or longer n 0) none)) (sym last)
          (subst (λ (n : ℕ). IsRow c (get_or new n none)) (sym last_number) (is (get_or new r none) (placed.here none))))
          (λ (early : i < c). subst (λ (w : A). IsRow i w)
          (sym (ap (λ n. get_or new n none) (earlier i 0 early) ∙ placed.kept (get_or numbers i 0) none (number_within i early)))
          (so_far.each i none early))
          (eq-or-lt_of_le (omega (arith, h)));
    }

-- ---- rows with their sorts
module _ (A S : Type 0) (Has : S → A → Type 0) where
  pub none_sorted : (rows : List A) (sorts : List S) → rows ≡ [] → sorts ≡ [] → AreSorted A S Has rows sorts
  none_sorted rows sorts e f = record {
    counted = ap length f ∙ sym (ap length e);
    each = λ r sort row h. let l = ap length e in absurd (omega (arith, l, h));
  }

  module _ (rows : List A) (sorts : List S) (sort : S) (h : AreSorted A S Has rows sorts) where
    -- the row of a sort is there
    pub found : (slice : List S) → slice ≡ sorts → (number : ℕ) → number < length slice → ((none : S) → get_or slice number none ≡ sort) → IsPlaced A (Has sort) rows rows number
    found slice e number inside is =
        let within : number < length sorts = subst (λ (l : List S). number < length l) e inside in
        let same : (none : S) → get_or sorts number none ≡ sort = λ none. sym (ap (λ l. get_or l number none) e) ∙ is none in record {
          kept = λ r none l. refl;
          from = omega arith;
          upto = omega arith;
          within = let c = h.counted in omega (arith, c, within);
          here = λ none. subst (λ (s : S). Has s (get_or rows number none)) (same sort) (h.each number sort none (let c = h.counted in omega (arith, c, within)));
        }

    module _ (row : A) (is : Has sort row) where
      pub pushed : IsPlaced A (Has sort) rows (rows ++ row ∷ []) (length rows)
      pushed = let l = length-append rows (row ∷ []) in record {
        kept = λ r none l. get_or_append_left rows (row ∷ []) none r l;
        from = omega (arith, l);
        upto = omega (arith, l);
        within = omega (arith, l);
        here = λ none. subst (λ (w : A). Has sort w) (sym (get_or-append_seam rows row [] none)) is;
      }

      pub sorted_more : AreSorted A S Has (rows ++ row ∷ []) (sorts ++ sort ∷ [])
      sorted_more = record {
        counted = length-append sorts (sort ∷ []) ∙ ap (λ n. n + 1) h.counted ∙ sym (length-append rows (row ∷ []));
        each = λ r s w within. ⊎_elim
            (λ (last : r ≡ length rows). subst (λ (n : ℕ). Has (get_or (sorts ++ sort ∷ []) n s) (get_or (rows ++ row ∷ []) n w)) (sym last)
            (subst (λ (t : S). Has t (get_or (rows ++ row ∷ []) (length rows) w)) (sym (ap (λ n. get_or (sorts ++ sort ∷ []) n s) (sym h.counted) ∙ get_or-append_seam sorts sort [] s))
            (subst (λ (v : A). Has sort v) (sym (get_or-append_seam rows row [] w)) is)))
            (λ (early : r < length rows).
            subst (λ (t : S). Has t (get_or (rows ++ row ∷ []) r w)) (sym (get_or_append_left sorts (sort ∷ []) s r (let c = h.counted in omega (arith, c, early))))
            (subst (λ (v : A). Has (get_or sorts r s) v) (sym (get_or_append_left rows (row ∷ []) w r early)) (h.each r s w early)))
            (eq-or-lt_of_le (let l = length-append rows (row ∷ []) in omega (arith, within, l)));
      }
