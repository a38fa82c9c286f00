use Rattle.std.proofs.lemmas.Result.{err_from_is_err_and}
use Rattle.std.proofs.lemmas.Bool.Decides.{not_from_Decides}
use Rattle.ark_fft.specs.CosetBytes.{all_fields, size_and_offset}
use Rattle.ark_fft.proofs.DomainReading.{finds_short, refused_short, refused_long, found_short, found_long}
use Rattle.ark_fft.proofs.domain.coset.bytes.CosetCanonicalDeserialize.deserialize_with_mode.Goals as goal

pub returns-in_err-size-in-Yes : goal.returns-in_err-size-in-Yes
returns-in_err-size-in-Yes g c =
    let p = err_from_is_err_and c.from_residual.result c.from_residual.ensures.1 in
    rw (p.1, p.2) (refused_short (g.F.Spelled.format c.args.mode) all_fields c.args.mode g.F.CanonicalDeserialize.takes_memory g.met.F.Field.memory_law c.in-Yes.is _ _ _ c.in_err-size-in-Yes.ensures)

pub returns-in_err-fields-in-No : goal.returns-in_err-fields-in-No
returns-in_err-fields-in-No g c =
    let p = err_from_is_err_and c.from_residual-in_err-fields-in-No.result c.from_residual-in_err-fields-in-No.ensures.1 in
    rw (p.1, p.2) (refused_long (g.F.Spelled.format c.args.mode) all_fields c.args.mode g.F.CanonicalDeserialize.takes_memory g.met.F.Field.memory_law c.in-No.is _ _ _ c.in_err-fields-in-No.ensures)

pub returns-in_ok-size-in-Yes : goal.returns-in_ok-size-in-Yes
returns-in_ok-size-in-Yes g c =
    let e = g.F.Spelled.format c.args.mode in
    let law = g.met.F.Field.equality_law in
    let n = c.of_size.ensures in
    let finds = finds_short g.F.Field.field g.F.FftField.adicity (λ d. size_and_offset (all_fields d)) c.in_ok-size-in-Yes.size c.in_ok-size-in-Yes.offset c.of_size.result
    (λ y. (y.log_size_of_group, y.odd_exponent, y.splits)) (λ y. not_from_Decides _ (law _ _) y.offset_not_zero) n.size n.offset n.none in
    rw c.ok_or.ensures.value
    (found_short e all_fields c.args.mode (g.F.Spelled.format_law c.args.mode) (g.met.F.Field.elements_law c.args.mode).one_to_one c.in-Yes.is _ _ _ _ finds c.in_ok-size-in-Yes.ensures)

pub returns-in_ok-fields-in-No : goal.returns-in_ok-fields-in-No
returns-in_ok-fields-in-No g c =
    let e = g.F.Spelled.format c.args.mode in
    rw c.ok_or-in-No.ensures.value
    (found_long e all_fields c.args.mode (g.F.Spelled.format_law c.args.mode) (g.met.F.Field.elements_law c.args.mode).one_to_one c.in-No.is _ _ _ _ c.of_fields.ensures c.in_ok-fields-in-No.ensures)
