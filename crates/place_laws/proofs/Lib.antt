mod Below
mod SpellingFaults
mod MeaningFaults
mod FirstFaults
