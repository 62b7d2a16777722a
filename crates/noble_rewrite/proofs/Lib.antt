mod Thin
mod Exchanges
mod RuleSteps
mod TurnSteps
mod FirstTurns
