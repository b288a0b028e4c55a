mod ReadyToJudge
mod SaidOfValue
