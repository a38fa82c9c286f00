use Rattle.std.proofs.Common.{◌≡◌, ◌≢◌, ℕ, ◌<◌, length, drop, map, sym, ap, subst, ◌∙◌, arith, length-take-le}
use Rattle.std.proofs.lemmas.List.{length-map}
use Rattle.ark_math.specs.Domain.{radix2}
use Rattle.ark_math.proofs.Lists.Lists.{written_back}
use Rattle.ark_math.proofs.Lists.Tabulated.{length-tabulate}
use Rattle.ark_fft.proofs.Counts.{none_yet, itself}
use Rattle.ark_fft.specs.Coset.{coset_domain}
use Rattle.ark_fft_parts.specs.Parts.{column}
use Rattle.ark_fft_parts.specs.Ways.{IsMade}
use Rattle.ark_fft_parts.proofs.Counting.{no_transforms, cuts_add_up}
use Rattle.ark_fft_parts.proofs.Domains.{power_of_two}
use Rattle.ark_fft_parts.proofs.Matrices.{more_columns}
use Rattle.ark_fft_parts.proofs.blocks.pass_columns.Goals as goal

pub loop-j-init : goal.loop-j-init
loop-j-init g c =
    let t = c.args.passes.now.parts.column in
    let block = c.args.block.now in
    record {
      len = ap length c.in_ok-made.ensures ∙ length-take-le (length block) block (itself (length block));
      made = λ k l. none_yet k l;
      counted = no_transforms c.column_domain-domain.result.size t.log_size_of_group c.args.work.now
          (c.column_domain-domain.ensures.size ∙ power_of_two g.F.FftField.adicity t.size t.log_size_of_group t.odd_exponent t.splits c.args.passes.now.parts.columns_even);
    }

pub pass-requires-clause-size : goal.pass-requires-clause-size
pass-requires-clause-size g c =
    let m = g.T.DomainCoeff.meaning in
    sym (length-map c.in_ok-list.list.items m) ∙ (ap length c.in_ok-list.ensures.column ∙ length-tabulate c.column_domain-domain.result.size _)

pub loop-j-preserved : goal.loop-j-preserved
loop-j-preserved g c =
    let K = g.F.Field.field in
    let V = g.T.DomainCoeff.group in
    let m = g.T.DomainCoeff.meaning in
    let d = coset_domain radix2 c.column_domain-domain.result in
    let n = c.column_domain-domain.result.size in
    let j = c.loop-j.j in
    let v = c.loop-j.invariant in
    let count = c.args.count in
    let block = c.args.block.now in
    let old = c.loop-j.made in
    let new = c.put_column.new.block in
    let items = c.as_slice.result.now in
    let list = c.pass.new.list.items in
    let P = λ (x : _) (y : _). IsMade K V c.args.passes.now.way d x y in
    let kept : length new ≡ length old.items = omega (arith, c.put_column.auto.block, c.as_mut_slice.ensures.len, c.as_mut_slice.ensures.value) in
    let back = written_back new (drop (length new) old.items) old.len (omega (arith, kept, c.as_mut_slice.ensures.len, c.as_mut_slice.ensures.value)) in
    let size : length items ≡ n = ap length c.as_slice.ensures.value ∙ c.in_ok-pass.ensures.size in
    let here : P (column V n count (map m block) j) (map m list) = subst (λ x. P x (map m list)) c.in_ok-list.ensures.column c.in_ok-pass.ensures.made in
    let is : column V n count (map m new) j ≡ map m list =
    subst (λ k. column V k count (map m new) j ≡ map m list) size (c.put_column.ensures.column ∙ ap (map m) c.as_slice.ensures.value) in
    let others = λ (k : ℕ) (l : k < count) (ne : k ≢ j).
    subst (λ h. column V h count (map m new) k ≡ column V h count (map m old.items) k) size
    (c.put_column.ensures.others k l ne ∙ ap (λ xs. column V (length items) count (map m xs) k) c.as_mut_slice.ensures.value) in
    record {
      len = ap length back ∙ (kept ∙ v.len);
      made = λ k l. subst (λ xs. P (column V n count (map m block) k) (column V n count (map m xs) k)) (sym back) (more_columns V m P n count j block old.items new list c.loop-j-test.true v.made here is others k l);
      counted = cuts_add_up n j 1 v.counted c.in_ok-pass.ensures.counted;
    }
