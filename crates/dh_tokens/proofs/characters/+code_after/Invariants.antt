use Rattle.dh_tokens.proofs.characters.+code_after.Given as goal

abbrev pub decreases-code_after : goal.decreases-code_after
decreases-code_after l = l.count
