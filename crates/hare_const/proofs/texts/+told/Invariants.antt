use Rattle.hare_const.proofs.texts.+told.Given as goal

abbrev pub decreases-is_text : goal.decreases-is_text
decreases-is_text l = goal.size-is_text l

abbrev pub decreases-is_text_kid : goal.decreases-is_text_kid
decreases-is_text_kid l = goal.size-is_text_kid l
