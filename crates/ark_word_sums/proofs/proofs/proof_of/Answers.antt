use Rattle.std.proofs.Common.{◌^◌, ◌<◌, length, sym, ◌∙◌, arith, eqb-true}
use Rattle.std.proofs.lemmas.Bool.{eqb-false}
use Rattle.ark_bytes.specs.declared.compress.Compress.TheVariants.{Yes}
use Rattle.ark_fiat_shamir.specs.ProofBytes.{proof_format, proof_is_format}
use Rattle.ark_word_sums.proofs.Bytes.{read_all, nothing_left, refused_bytes, sent_spelled, proof_spelled}
use Rattle.ark_word_sums.proofs.proofs.proof_of.Goals as goal

pub returns-then-is_empty-clause-spelled : goal.returns-then-is_empty-clause-spelled
returns-then-is_empty-clause-spelled g c =
    let e = g.F.Spelled.format Yes in
    read_all (proof_format e) c.args.bytes.now _ c.in-Ok.proof
    (eqb-true _ 0 (sym c.is_empty.ensures ∙ c.if-is_empty.true)) c.in-Ok.ensures
    ∙ sent_spelled e c.in-Ok.proof

pub returns-else-is_empty-clause-refused : goal.returns-else-is_empty-clause-refused
returns-else-is_empty-clause-refused g c = λ _ rounds is.
    let e = g.F.Spelled.format Yes in
    let small : length c.args.bytes.now < 2 ^ 63 = omega arith in
    let s = proof_spelled g.F.Field.field e g.F.Field.element_size (g.met.F.Field.elements_law Yes) c.args.alloc c.args.bytes.now small rounds is in
    eqb-false _ 0 (sym c.is_empty.ensures ∙ c.if-is_empty.false)
    (nothing_left (proof_format e) c.args.bytes.now _ (proof_is_format e (g.F.Spelled.format_law Yes)) c.in-Ok.proof c.in-Ok.ensures s)

pub returns-in-Err-clause-refused : goal.returns-in-Err-clause-refused
returns-in-Err-clause-refused g c = λ refused rounds is.
    let e = g.F.Spelled.format Yes in
    let small : length c.args.bytes.now < 2 ^ 63 = omega arith in
    let s = proof_spelled g.F.Field.field e g.F.Field.element_size (g.met.F.Field.elements_law Yes) c.args.alloc c.args.bytes.now small rounds is in
    refused_bytes (proof_format e) c.args.bytes.now _ (proof_is_format e (g.F.Spelled.format_law Yes)) _
    c.in-Err.error (c.refusal_of.ensures.refused refused) c.in-Err.ensures s
