use Rattle.std.proofs.Common.{◌≡◌, ◌≢◌, ◌-◌, ◌*◌, ◌≤◌, sym, ap₂, subst, ◌∙◌, arith}
use Rattle.std.proofs.lemmas.Bool.{true_from_ne_false}
use Rattle.std.proofs.lemmas.Bool.Decides.{not_from_Decides}
use Rattle.ark_math.specs.Root.{Splits}
use Rattle.ark_math.proofs.Algebra.NonZero.{power_not_zero}
use Rattle.ark_fft.proofs.Halving.{shifted}
use Rattle.ark_fft_parts.proofs.Domains.{few_levels, smaller_splits, power_of_two, size_in_parts}
use Rattle.ark_fft_parts.proofs.parts.Parts.of_rows.Goals as goal

pub overflow_shl-log_rows : goal.overflow_shl-log_rows
overflow_shl-log_rows g c =
    let t = c.args.whole.now in
    few_levels g.F.FftField.adicity t.size t.log_size_of_group t.odd_exponent c.args.log_rows t.splits c.requires.even c.requires.within

pub overflow_shl-log_columns : goal.overflow_shl-log_columns
overflow_shl-log_columns g c =
    let t = c.args.whole.now in
    let within : t.log_size_of_group - c.args.log_rows ≤ t.log_size_of_group = omega arith in
    few_levels g.F.FftField.adicity t.size t.log_size_of_group t.odd_exponent (t.log_size_of_group - c.args.log_rows) t.splits c.requires.even within

pub subgroup-rows-requires : goal.subgroup-rows-requires
subgroup-rows-requires g c =
    let s = g.F.FftField.adicity in
    let t = c.args.whole.now in
    let e = c.args.log_rows in
    let few = few_levels s t.size t.log_size_of_group t.odd_exponent e t.splits c.requires.even c.requires.within in
    subst (λ n. Splits s n e 0) (sym (shifted e few)) (smaller_splits s t.size t.log_size_of_group t.odd_exponent e t.splits c.requires.even c.requires.within)

pub subgroup-row-requires : goal.subgroup-row-requires
subgroup-row-requires g c =
    let s = g.F.FftField.adicity in
    let t = c.args.whole.now in
    let e = t.log_size_of_group - c.args.log_rows in
    let within : e ≤ t.log_size_of_group = omega arith in
    let few = few_levels s t.size t.log_size_of_group t.odd_exponent e t.splits c.requires.even within in
    subst (λ n. Splits s n e 0) (sym (shifted e few)) (smaller_splits s t.size t.log_size_of_group t.odd_exponent e t.splits c.requires.even within)

pub unwrap-column-requires : goal.unwrap-column-requires
unwrap-column-requires g c =
    let K = g.F.Field.field in
    let t = c.args.whole.now in
    let ne : t.offset ≢ K.zero = not_from_Decides _ (g.met.F.Field.equality_law _ _) t.offset_not_zero in
    true_from_ne_false _ (λ none. power_not_zero K g.met.F.Field.field_laws t.offset c.subgroup-row.result.size ne (sym c.pow.ensures ∙ c.with_offset.ensures.none.0 none))

pub invariant_of-result : goal.invariant_of-result
invariant_of-result g c =
    let s = g.F.FftField.adicity in
    let t = c.args.whole.now in
    let e = c.args.log_rows in
    let f = t.log_size_of_group - e in
    let within : f ≤ t.log_size_of_group = omega arith in
    let few = few_levels s t.size t.log_size_of_group t.odd_exponent e t.splits c.requires.even c.requires.within in
    let few_too = few_levels s t.size t.log_size_of_group t.odd_exponent f t.splits c.requires.even within in
    let column_size : c.unwrap-column.result.size ≡ c.subgroup-rows.result.size = rw c.unwrap-column.ensures at c.with_offset.ensures.size in
    let column_odds : c.unwrap-column.result.odd_exponent ≡ c.subgroup-rows.result.odd_exponent = rw c.unwrap-column.ensures at c.with_offset.ensures.odds in
    let column_offset : c.unwrap-column.result.offset ≡ c.pow.result = rw c.unwrap-column.ensures at c.with_offset.ensures.offset in
    let is = power_of_two s t.size t.log_size_of_group t.odd_exponent t.splits c.requires.even in
    record {
      size_is = size_in_parts t.size t.log_size_of_group e is c.requires.within
          ∙ sym (ap₂ (λ m n. m * n) (column_size ∙ (c.subgroup-rows.ensures.size ∙ shifted e few)) (c.subgroup-row.ensures.size ∙ shifted f few_too));
      columns_even = column_odds ∙ c.subgroup-rows.ensures.odds;
      rows_even = c.subgroup-row.ensures.odds;
      column_offset_is = (g.met.F.Field.equality_law _ _).1 (column_offset ∙ c.pow.ensures);
    }
