use Rattle.std.proofs.Common.{◌≡◌, ◌≢◌, sym, ap, ◌∙◌}
use Rattle.std.proofs.lemmas.Bool.{true_from_ne_false}
use Rattle.std.proofs.lemmas.Bool.Decides.{not_from_Decides}
use Rattle.ark_math.specs.Field.{power}
use Rattle.ark_math.specs.Domain.{radix2}
use Rattle.ark_fft_parts.proofs.Domains.{part_root, element_not_zero, same_part}
use Rattle.ark_fft_parts.proofs.parts.Parts.row_domain.Goals as goal

pub unwrap-requires : goal.unwrap-requires
unwrap-requires g c =
    let K = g.F.Field.field in
    let t = c.args.self.now.whole in
    let law = g.met.F.Field.equality_law in
    let ne : t.offset ≢ K.zero = not_from_Decides _ (law _ _) t.offset_not_zero in
    let is : c.mul-element.result ≡ K.times t.offset (power K t.group_gen c.args.i) = g.met.F.Field.mul_law _ _ _ c.mul-element.ensures ∙ ap (K.times t.offset) c.pow.ensures in
    true_from_ne_false _
    (λ none.
    element_not_zero K g.met.F.Field.field_laws g.F.FftField.adicity g.F.FftField.root g.met.F.FftField.roots_law t.size t.group_gen t.offset c.args.i
    (t.log_size_of_group, t.odd_exponent, t.splits) ((law _ _).0 t.root_is) ne (sym is ∙ c.with_offset.ensures.none.0 none))

pub returns-clause-domain : goal.returns-clause-domain
returns-clause-domain g c =
    let K = g.F.Field.field in
    let t = c.args.self.now in
    let law = g.met.F.Field.equality_law in
    let size : c.unwrap.result.size ≡ t.row.size = rw c.unwrap.ensures at c.with_offset.ensures.size in
    let root : c.unwrap.result.group_gen ≡ t.row.group_gen = rw c.unwrap.ensures at c.with_offset.ensures.root in
    let offset : c.unwrap.result.offset ≡ c.mul-element.result = rw c.unwrap.ensures at c.with_offset.ensures.offset in
    same_part radix2 size
    (root
    ∙ part_root K g.met.F.Field.field_laws g.F.FftField.adicity g.F.FftField.root g.met.F.FftField.roots_law t.whole.size t.column.size t.row.size t.whole.group_gen t.row.group_gen
    t.size_is (t.whole.log_size_of_group, t.whole.odd_exponent, t.whole.splits) (t.row.log_size_of_group, t.row.odd_exponent, t.row.splits)
    ((law _ _).0 t.whole.root_is) ((law _ _).0 t.row.root_is))
    (offset ∙ (g.met.F.Field.mul_law _ _ _ c.mul-element.ensures ∙ ap (K.times t.whole.offset) c.pow.ensures))
