mod CountedOn
mod Pieces
mod BySession
mod AllAnswered
mod GeneratedLines
mod EachOnce
mod Untroubled
mod OneSummary
