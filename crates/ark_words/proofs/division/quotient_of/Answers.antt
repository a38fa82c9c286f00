use Rattle.ark_words.proofs.division.quotient_of.Goals as goal

pub returns-clause-quotient : goal.returns-clause-quotient
returns-clause-quotient g c = let division = rw c.in-Ok-Some.field-0-is at c.in-Ok-Some.ensures.division in division.quotient c.requires
