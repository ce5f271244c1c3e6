-- Loads, and what a poll makes of one.
use Rattle.std.specs.Prelude.{ℕ, ◌+◌, ◌-◌, ◌^◌, min, Bool, false, nat_le, if◌then◌else◌, Option, Some, None}
use Rattle.values.specs.declared.code.Code.{Code}
use Rattle.values.specs.Evaluation.{is_same}
use Rattle.outside.specs.declared.traits.Arrival.{Arrival}
use Rattle.outside.specs.declared.traits.Arrival.TheVariants.{Ready, NotYet, Failed as Fault}
use Rattle.async_derived.specs.declared.loading.Loading.{Loading}
use Rattle.async_derived.specs.declared.loading.Polled.{Polled}
use Rattle.async_derived.specs.declared.loading.Polled.TheVariants.{Arrived, Waiting, Failed}

-- the key is kept
abbrev pub is_key : Option Code → Code → Bool
is_key None key = false
is_key (Some code) key = is_same code key

-- a load that was never asked for
abbrev pub first_load : Loading
first_load = record { key = None; arrived = None; asked = 0 }

-- the load turned to a key: another key starts it anew
abbrev pub keyed : Loading → Code → Loading
keyed load key = if is_key load.key key then load else record { key = Some key; arrived = None; asked = 0 }

-- a count of asks after one more
abbrev pub next_asked : ℕ → ℕ
next_asked asked = min (asked + 1) (2 ^ 32 - 1)

-- the load after one ask, by what came of it
abbrev pub after_ask : Loading → Code → Polled → Loading
after_ask load key Arrived = record { key = load.key; arrived = Some key; asked = next_asked load.asked }
after_ask load key Waiting = record { key = load.key; arrived = load.arrived; asked = next_asked load.asked }
after_ask load key Failed = record { key = load.key; arrived = load.arrived; asked = next_asked load.asked }

-- the load after a poll: nothing is asked where the key has arrived
abbrev pub after_poll : Loading → Code → Polled → Loading
after_poll load key polled = if is_key load.arrived key then load else after_ask (keyed load key) key polled

-- what a loader answered, of what came of the ask
abbrev pub answer_of : Polled → Arrival
answer_of Arrived = Ready
answer_of Waiting = NotYet
answer_of Failed = Fault

-- what comes of an ask of a prompt loader
abbrev pub prompt_ask : ℕ → ℕ → Polled
prompt_ask after asked = if nat_le after asked then Arrived else Waiting

-- what comes of a poll with a prompt loader
abbrev pub prompt_poll : Loading → Code → ℕ → Polled
prompt_poll load key after = if is_key load.arrived key then Arrived else prompt_ask after (keyed load key).asked
