mod Sound
mod Growing
