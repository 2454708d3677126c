mod RuleTests
mod Shown
