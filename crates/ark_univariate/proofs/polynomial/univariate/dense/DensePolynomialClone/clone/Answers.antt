use Rattle.std.proofs.Common.{◌≡◌, subst, sym, ◌∙◌}
use Rattle.std.proofs.lemmas.List.Elements.{same_from_all_zip}
use Rattle.ark_math.specs.Univariate.{IsTrimmed}
use Rattle.ark_univariate.proofs.polynomial.univariate.dense.DensePolynomialClone.clone.Given as given
use Rattle.ark_univariate.proofs.polynomial.univariate.dense.DensePolynomialClone.clone.Goals as goal

same : (g : given.Over) (c : goal.In_ok-clone g) → c.in_ok-clone.field-0.items ≡ c.self.inside.coeffs.items
same g c = same_from_all_zip g.F.Clone.is_clone _ _ c.in_ok-clone.ensures.cases.0 g.met.F.Field.clone_law

pub invariant_of-result : goal.invariant_of-result
invariant_of-result g c = subst (IsTrimmed g.F.Field.field) (sym (same g c)) c.self.invariant

pub returns : goal.returns
returns g c = record { cases = same g c ∙ c.self.view_is }
