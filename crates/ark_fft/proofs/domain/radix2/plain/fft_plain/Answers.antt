-- The plain sums at the places are the transform.
use Rattle.std.proofs.Common.{◌≡◌, ◌<◌, ℕ, length, map, ap, ◌∙◌, arith}
use Rattle.std.proofs.lemmas.List.{length-map}
use Rattle.ark_math.specs.Domain.{Domain, radix2}
use Rattle.ark_math.specs.Module.{item}
use Rattle.ark_math.proofs.Lists.Lists.{read_fitted, written_back}
use Rattle.ark_math_transforms.proofs.Transforms.Transforms.{is_plain_transform}
use Rattle.ark_fft.proofs.domain.radix2.plain.fft_plain.Goals as goal

pub returns-clause-transform : goal.returns-clause-transform
returns-clause-transform g c =
    let K = g.F.Field.field in
    let V = g.T.Summand.group in
    let m = g.T.Summand.meaning in
    let t = c.args.coset.now in
    let d : Domain g.row.F.Denot = record { kind = radix2; size = t.size; root = t.group_gen; offset = t.offset } in
    let old = c.args.coeffs.now.items in
    let fitted = c.as_slice.result.now in
    let now = c.plain_values.new.values in
    let size_fitted : length fitted ≡ t.size = omega (arith, c.in_ok-resize-2.ensures.len) in
    let size_now : length now ≡ t.size = omega (arith, c.in_ok-resize.ensures.len) in
    let fit : (j : ℕ) → j < t.size → item V (map m fitted) j ≡ item V (map m old) j = λ j l.
    ap (λ xs. item V (map m xs) j) (c.as_slice.ensures.value ∙ c.in_ok-resize-2.ensures.items)
    ∙ read_fitted m V.zero old t.size _ c.zero-2.result (ap m c.zero-2.ensures ∙ g.met.T.Summand.zero_meaning) j l in
    ap (map m) (written_back now _ _ (omega (arith, c.in_ok-resize.ensures.len)))
    ∙ is_plain_transform K V d (map m old) (map m fitted) (map m now) (length-map fitted m ∙ size_fitted) (length-map now m ∙ size_now) fit
    (λ i l. c.plain_values.ensures.values i (omega (arith, c.in_ok-resize.ensures.len)))
