use Rattle.std.proofs.Common.{◌≡◌, ℕ, ◌+◌, ◌*◌, ◌/◌, ◌^◌, ◌<◌, List, length, ap, ap₂, sym, subst, ◌∙◌, arith}
use Rattle.std.proofs.Math.Nat.{mul-div_cancel, mul-div_cancel_left, one-le-pow}
use Rattle.ark_math.specs.Module.{itself}
use Rattle.ark_math.specs.Words.{number_of_words}
use Rattle.ark_numbers.specs.Fields.{operations}
use Rattle.ark_numbers.specs.Answers.{AreValues}
use Rattle.ark_fft_parts.specs.Parts.{across, column, row}
use Rattle.ark_fft_parts.proofs.Matrices.{across_columns}
use Rattle.ark_words.specs.Numbers.{numbers}
use Rattle.ark_words.specs.Parts.{column_at, row_at, of_column, of_row, AreColumns, AreRows}
use Rattle.examples.proofs.words.transformed_by_parts.Goals as goal

pub returns : goal.returns
returns g c = λ values is.
    let f = g.F.WordElement.spelled in
    let a = c.args.log_rows in
    let b = c.args.log_columns in
    let h = number_of_words c.args.offset.now in
    let W = itself (operations f.known) in
    let old = c.args.words.now in
    let made = c.fft_columns.new.words in
    let new = c.fft_rows.new.words in
    let taken = c.in_ok-fft_columns.ensures.taken in
    let some_rows : 0 < 2 ^ a = one-le-pow a 2 (omega arith) in
    let some_columns : 0 < 2 ^ b = one-le-pow b 2 (omega arith) in
    let count : length old / f.width / 2 ^ a ≡ 2 ^ b = ap (λ n. n / 2 ^ a) c.requires ∙ mul-div_cancel_left (2 ^ b) some_rows in
    let len : length made / f.width ≡ 2 ^ a * 2 ^ b = ap (λ n. n / f.width) c.fft_columns.auto.words ∙ c.requires in
    let count_made : length made / f.width / 2 ^ a ≡ 2 ^ b = ap (λ n. n / 2 ^ a) len ∙ mul-div_cancel_left (2 ^ b) some_rows in
    let rows : length made / f.width / 2 ^ b ≡ 2 ^ a = ap (λ n. n / 2 ^ b) len ∙ mul-div_cancel (2 ^ a) some_columns in
    let columns = column W (2 ^ a) (2 ^ b) (numbers f.width made) in
    let columns_made : AreColumns f.known a b h (numbers f.width old) columns = λ j l.
    subst (λ k. AreValues f.known (of_column f.known a b h) (column W (2 ^ a) (2 ^ b) (numbers f.width old) j) (column W (2 ^ a) k (numbers f.width made) j)) count_made
    (subst (λ k. AreValues f.known (of_column f.known a b h) (column W (2 ^ a) k (numbers f.width old) j) (column_at f a made j)) count
    (c.in_ok-fft_columns.ensures.values j (subst (λ k. j < k) (sym count) l))) in
    let rows_made : AreRows f.known a b h columns (row_at f b new) = λ i l.
    let first : 0 + i ≡ i = omega arith in
    subst (λ xs. AreValues f.known (of_row f.known a b h i) xs (row_at f b new i)) (sym (across_columns W (2 ^ a) (2 ^ b) i (numbers f.width made) l))
    (subst (λ k. AreValues f.known (of_row f.known a b h k) (row_at f b made i) (row_at f b new i)) first
    (c.in_ok-fft_rows.ensures.values i (subst (λ k. i < k) (sym rows) l))) in
    c.parts_make_the_transform.ensures a b h (numbers f.width old) values columns (row_at f b new) taken.0.1 taken.2.0 taken.1.1 taken.2.1 taken.1.0 columns_made rows_made is
