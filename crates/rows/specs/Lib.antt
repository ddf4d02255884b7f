-- What stepping rows works out on the way, and what keeps it within the limits.
pub mod Steps
