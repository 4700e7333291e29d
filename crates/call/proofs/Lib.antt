mod Ending
mod Verdicts
