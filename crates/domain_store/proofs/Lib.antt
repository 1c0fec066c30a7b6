mod ContextLemmas
mod KeptLemmas
mod NodeLemmas
mod PathLemmas
mod PaymentLemmas
mod SlotLemmas
