-- A run's words, without its counters and timers.
use Rattle.std.specs.Prelude.{ℕ}

pub record Words : Type 0 where
  pub clock : ℕ
  pub active : ℕ
  pub activity : ℕ
  pub stored : ℕ
  pub latched : ℕ
  pub good : ℕ
  pub bad : ℕ
  pub hold : ℕ
