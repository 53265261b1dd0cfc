pub mod Judgments
pub mod JudgmentsCost
pub mod JudgmentsLag
pub mod JudgmentsLimits
pub mod JudgmentsSteady
