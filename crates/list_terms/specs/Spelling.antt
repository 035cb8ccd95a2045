-- The spelling of numbers and channels.
use Rattle.std.specs.Prelude.{◌≡◌, ℕ, ◌≤◌, ◌++◌, decimal, length, replicate, List, ◌∷◌}
use Rattle.sound_terms.specs.declared.Channels.{Channels}

-- The spelling of a number from 1 to `limit`: at most six digits, including leading zeros.
pub record IsNumber (limit : ℕ) (text : List ℕ) (number : ℕ) : Type 0 where
  pub zeros : ℕ
  pub digits : text ≡ replicate zeros 48 ++ decimal number
  pub few : length text ≤ 6
  pub above : 1 ≤ number
  pub below : number ≤ limit

-- The spelling of channels: `n` for one channel of 64, `a~b` for channels a to b.
pub data SpellsChannels : List ℕ → Channels → Type 0 where
  OneChannel : (text : List ℕ) (channel : ℕ) → IsNumber 64 text channel
      → SpellsChannels text (record { first = channel; last = channel })
  ChannelRun : (front back : List ℕ) (channels : Channels)
      → IsNumber 64 front channels.first → IsNumber 64 back channels.last → channels.first ≤ channels.last
      → SpellsChannels (front ++ (126 ∷ back)) channels
