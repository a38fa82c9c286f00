use Rattle.std.proofs.Common.{◌<◌, sym, subst}
use Rattle.ark_words.specs.Numbers.{Spelled}
use Rattle.ark_words.proofs.OneSpelling.{one_spelling}
use Rattle.ark_words.proofs.laws.one_list_of_words.Goals as goal

pub returns : goal.returns
returns g c = λ words others whole len below beneath same.
    let width : 0 < g.F.WordElement.spelled.width = subst (λ (s : Spelled). 0 < s.width) (sym g.met.F.WordElement.spelled_law) g.met.F.WordElement.width_law in
    one_spelling g.F.WordElement.spelled.width width words others len whole below beneath same
