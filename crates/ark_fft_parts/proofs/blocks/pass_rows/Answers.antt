use Rattle.std.proofs.Common.{◌≡◌, ◌+◌, ◌*◌, ◌++◌, length, map, sym, ap, subst, ◌∙◌, arith, length-append}
use Rattle.std.proofs.lemmas.List.{length-map}
use Rattle.ark_math.specs.Domain.{radix2}
use Rattle.ark_math.proofs.Lists.Tabulated.{length-tabulate}
use Rattle.ark_fft.specs.Coset.{coset_domain}
use Rattle.ark_fft.proofs.Counts.{none_yet}
use Rattle.ark_fft_parts.specs.Counting.{GrowsByTransforms}
use Rattle.ark_fft_parts.specs.Parts.{row, of_row}
use Rattle.ark_fft_parts.specs.Ways.{IsMade}
use Rattle.ark_fft_parts.proofs.Counting.{no_transforms, cuts_add_up}
use Rattle.ark_fft_parts.proofs.Domains.{power_of_two}
use Rattle.ark_fft_parts.proofs.Matrices.{more_rows}
use Rattle.ark_fft_parts.proofs.blocks.pass_rows.Goals as goal

pub loop-a-init : goal.loop-a-init
loop-a-init g c =
    let t = c.args.passes.now.parts in
    let none : 0 * t.row.size ≡ 0 = omega arith in
    record {
      len = ap length c.in_ok-made.ensures.items ∙ sym none;
      made = λ k l. none_yet k l;
      counted = no_transforms t.row.size t.row.log_size_of_group c.args.work.now (power_of_two g.F.FftField.adicity t.row.size t.row.log_size_of_group t.row.odd_exponent t.row.splits t.rows_even);
    }

pub pass-requires-clause-size : goal.pass-requires-clause-size
pass-requires-clause-size g c =
    let m = g.T.DomainCoeff.meaning in
    sym (length-map c.in_ok-list.list.items m) ∙ (ap length c.in_ok-list.ensures ∙ (length-tabulate c.args.passes.now.parts.row.size _ ∙ sym c.row_domain.ensures.size))

pub loop-a-preserved : goal.loop-a-preserved
loop-a-preserved g c =
    let K = g.F.Field.field in
    let V = g.T.DomainCoeff.group in
    let m = g.T.DomainCoeff.meaning in
    let t = c.args.passes.now.parts in
    let n = t.row.size in
    let a = c.loop-a.a in
    let v = c.loop-a.invariant in
    let block = c.args.block.now in
    let made = c.loop-a.made.items in
    let list = c.pass.new.list.items in
    let domain = λ (k : _). of_row K (coset_domain radix2 t.whole) t.column.size n (c.args.first + k) in
    let P = λ (k : _) (x : _) (y : _). IsMade K V c.args.passes.now.way (domain k) x y in
    let whole : c.extend_from_slice.new.self.items ≡ made ++ list = c.in_ok-extend_from_slice.ensures.items ∙ ap (λ ys. made ++ ys) c.as_slice.ensures.value in
    let size : length list ≡ n = c.in_ok-pass.ensures.size ∙ c.row_domain.ensures.size in
    let here : IsMade K V c.args.passes.now.way (domain a) (row V n (map m block) a) (map m list) =
    subst (λ d. IsMade K V c.args.passes.now.way d (row V n (map m block) a) (map m list)) c.row_domain.ensures.domain
    (subst (λ x. IsMade K V c.args.passes.now.way (coset_domain radix2 c.row_domain.result) x (map m list)) c.in_ok-list.ensures c.in_ok-pass.ensures.made) in
    let once : GrowsByTransforms 1 n c.loop-a.work c.pass.new.work = subst (λ k. GrowsByTransforms 1 k c.loop-a.work c.pass.new.work) c.row_domain.ensures.size c.in_ok-pass.ensures.counted in
    let next : a * n + n ≡ (a + 1) * n = omega arith in
    record {
      len = ap length whole ∙ (length-append made list ∙ (omega (arith, v.len, size, next)));
      made = λ k l. subst (λ xs. IsMade K V c.args.passes.now.way (domain k) (row V n (map m block) k) (row V n (map m xs) k)) (sym whole) (more_rows V m P n a block made list v.len size v.made here k l);
      counted = cuts_add_up n a 1 v.counted once;
    }
