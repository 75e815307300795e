-- What a start of a card or of a clock comes to, and its end.
use Rattle.std.specs.Prelude.{◌≡◌, ◌⊎◌, ℕ, Option, None, IfSome}
use Rattle.lapd_c.specs.declared.plain.config.PlainConfig.{PlainConfig}
use Rattle.lapd_c.specs.Config.{config_fault}
use Rattle.lapd_c.specs.Statuses as status

-- What a handle holds tells `held`. Where it holds one already, or the configuration is out of range, this is told; else one starts,
-- or there is no memory. Where none starts, nothing changes.
pub record IsStart {H X : Type 0} (held : H → Option X) (config : PlainConfig) (old new : H) (result : ℕ) : Type 0 where
  pub second : IfSome (held old) (λ _. (result ≡ status.second_start) × (new ≡ old))
  pub fault : held old ≡ None → IfSome (config_fault config) (λ wrong. (result ≡ wrong) × (new ≡ old))
  pub otherwise : held old ≡ None → config_fault config ≡ None → (result ≡ status.ok) ⊎ (result ≡ status.no_memory)
  pub no_memory : result ≡ status.no_memory → new ≡ old

-- An end gives back what a handle holds, after which that holds none.
pub record IsFreed {H X : Type 0} (Is : H → Type 0) (held : H → Option X) (none : ℕ) (old new : H) (result : ℕ) : Type 0 where
  pub handle : Is new
  pub empty : held old ≡ None → (result ≡ none) × (new ≡ old)
  pub freed : IfSome (held old) (λ _. (result ≡ status.ok) × (held new ≡ None))
