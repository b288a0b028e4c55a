use Rattle.hare_const.proofs.texts.+texts.Given as goal

abbrev pub decreases-text_of : goal.decreases-text_of
decreases-text_of l = goal.size-text_of l

abbrev pub decreases-text_of_kid : goal.decreases-text_of_kid
decreases-text_of_kid l = goal.size-text_of_kid l
