use Rattle.std.proofs.Common.{◌≡◌, ◌*◌, refl, ◌∙◌, arith}
use Rattle.ark_math.specs.Domain.{radix2}
use Rattle.ark_fft_parts.proofs.Domains.{part_root, same_part}
use Rattle.ark_fft_parts.proofs.parts.Parts.column_domain.Goals as goal

pub returns-clause-domain : goal.returns-clause-domain
returns-clause-domain g c =
    let t = c.args.self.now in
    let law = g.met.F.Field.equality_law in
    let turned : t.column.size * t.row.size ≡ t.row.size * t.column.size = omega arith in
    same_part radix2 refl
    (part_root g.F.Field.field g.met.F.Field.field_laws g.F.FftField.adicity g.F.FftField.root g.met.F.FftField.roots_law t.whole.size t.row.size t.column.size t.whole.group_gen t.column.group_gen
    (t.size_is ∙ turned) (t.whole.log_size_of_group, t.whole.odd_exponent, t.whole.splits) (t.column.log_size_of_group, t.column.odd_exponent, t.column.splits)
    ((law _ _).0 t.whole.root_is) ((law _ _).0 t.column.root_is))
    ((law _ _).0 t.column_offset_is)
