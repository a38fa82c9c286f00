use Rattle.std.proofs.lemmas.List.Elements.{same_from_all_zip}
use Rattle.ark_fiat_shamir.proofs.SentAlike.{same_keys}
use Rattle.ark_fiat_shamir.proofs.proof.SumCheckProofClone.clone.Goals as goal

pub returns : goal.returns
returns g c = record {
  cases =
      same_keys _ (λ v. v.items) (λ v w h. same_from_all_zip g.F.Clone.is_clone v.items w.items h.0 g.met.F.Field.clone_law)
      c.args.self.now.rounds.items c.in_ok-clone.field-0.items c.in_ok-clone.ensures.cases.0;
}
