use Rattle.std.proofs.Common.{◌∙◌, sym}
use Rattle.ark_math_domains.proofs.Callers.Transforms.{ifft_of_fft, inverse-meanings, same_from_meanings}
use Rattle.ark_math_transforms.proofs.Transforms.Carried.{same_carries, meaning_linear, fit-linear}
use Rattle.examples.proofs.there_and_back.there_and_back.Goals as goal

-- lists of elements are equal where their meanings are
pub returns-clause-same : goal.returns-clause-same
returns-clause-same g c =
    let K = g.F.Field.field in
    let same = g.met.F.FftField.itself_law in
    let ensured = c.in_ok-ifft_in_place.ensures in
    let back = inverse-meanings K _ same _ _ _ ensured.inverse in
    let meanings = ifft_of_fft _ _ _ _ _ _ c.in_ok-values.ensures.transform ensured.only in
    rw back.size (same_from_meanings K _ same _ _ (meanings ∙ sym (fit-linear (same_carries K) (meaning_linear same) _ _)))
