mod PutTries
mod FirstTurns
