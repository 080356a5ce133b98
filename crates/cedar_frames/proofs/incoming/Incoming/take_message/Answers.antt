use Rattle.cedar_frames.proofs.incoming.Incoming.take_message.Goals as goal

pub returns-clause-exact : goal.returns-clause-exact
returns-clause-exact c = (
  c.split_at.result.0.now,
  cc (c.as_slice.ensures.value, c.split_at.ensures.by_index.0, c.split_at-2.ensures.by_index.0, c.in_ok-message.ensures, c.in_ok-self.ensures),
)
