pub mod StandingStates
