use Rattle.std.proofs.Common.{◌≡◌, ◌-◌, ◌++◌, length, take, refl, ap, ◌∙◌}
use Rattle.std.specs.Prelude.{replicate}
use Rattle.std.proofs.lemmas.List.{take_all}
use Rattle.std.specs.Vec.{vec_len}
use Rattle.rs_code.proofs.FirstPlaces.{first_of}
use Rattle.rs_code.proofs.systematic.padded.Goals as goal

pub returns-clause-begins : goal.returns-clause-begins
returns-clause-begins g c =
    let message = c.args.message.now in
    let size = c.args.size in
    let zeros = replicate (size - vec_len c.extend_from_slice.new.self) c.zero.result in
    let own : take size c.extend_from_slice.new.self.items ≡ message =
    ap (take size) (c.in_ok-extend_from_slice.ensures.items ∙ ap (λ t. t ++ message) c.in_ok-word.ensures.items) ∙ take_all size message c.requires in
    ap (take (length message)) (c.in_ok-resize.ensures.items ∙ ap (λ t. t ++ zeros) own) ∙ first_of (length message) message zeros refl
